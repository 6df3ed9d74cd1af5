use Rattle.std.proofs.Common.{◌≡◌}
use Rattle.ddm_objects.specs.Reading.{walk}
use Rattle.ddm_objects.specs.Source.{rest_of}
use Rattle.drda_commands.specs.Given.{seen_in}
use Rattle.drda_commands.specs.Views.{occurs_of}
use Rattle.drda_commands.proofs.given.seen_in.Given as goal

abbrev pub invariant-loop-part : goal.invariant-loop-part
invariant-loop-part l = seen_in l.code (occurs_of l.seen) (walk (rest_of l.part-iterator)).objects ≡ seen_in l.code (occurs_of l.fn.before) (walk l.text).objects
