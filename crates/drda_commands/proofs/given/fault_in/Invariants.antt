use Rattle.std.proofs.Common.{◌≡◌}
use Rattle.ddm_objects.specs.Source.{rest_of}
use Rattle.drda_commands.specs.Given.{fault_inside, fault_in}
use Rattle.drda_commands.proofs.given.fault_in.Given as goal

abbrev pub invariant-loop-part : goal.invariant-loop-part
invariant-loop-part l = fault_in (fault_inside l.items l.kind) (rest_of l.part-iterator) ≡ fault_in (fault_inside l.items l.kind) l.text
