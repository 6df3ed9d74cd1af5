use Rattle.std.proofs.Common.{◌≡◌}
use Rattle.ddm_objects.specs.Source.{rest_of}
use Rattle.drda_commands.specs.Given.{objects_fault}
use Rattle.drda_commands.proofs.given.objects_fault.Given as goal

abbrev pub invariant-loop-part : goal.invariant-loop-part
invariant-loop-part l = objects_fault (rest_of l.part-iterator) ≡ objects_fault l.text
