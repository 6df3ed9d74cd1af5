-- Those in doubt are among the branches that are left.
use Rattle.std.proofs.Common.{◌≡◌, length}
use Rattle.xa_manager.specs.Branch.{in_doubt_xids}
use Rattle.rdb_core.specs.InDoubt.{xids_left}
use Rattle.rdb_core.proofs.in_doubt.InDoubt.next.Given as goal

abbrev pub invariant-loop-left : goal.invariant-loop-left
invariant-loop-left l = in_doubt_xids l.left ≡ xids_left l.fn.self

abbrev pub decreases-loop-left : goal.decreases-loop-left
decreases-loop-left l = length l.left
