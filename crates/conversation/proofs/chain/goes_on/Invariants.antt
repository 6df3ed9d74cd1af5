use Rattle.std.proofs.Common.{◌≡◌, length}
use Rattle.dss_frames.specs.Group.{command_of}
use Rattle.conversation.specs.Exchange.{goes_on_behind}
use Rattle.conversation.proofs.chain.goes_on.Given as goal

abbrev pub invariant-dsss : goal.invariant-dsss
invariant-dsss l = goes_on_behind l.is_chained (command_of l.left) ≡ goes_on_behind l.fn.before (command_of l.objects)

abbrev pub decreases-dsss : goal.decreases-dsss
decreases-dsss l = length (command_of l.left)
