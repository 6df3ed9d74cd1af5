-- Those in doubt are among the branches that are left.
use Rattle.std.proofs.Common.{◌≡◌, length}
use Rattle.rdb_core.specs.InDoubt.{branches_left, in_doubt_branches}
use Rattle.rdb_core.proofs.in_doubt.InDoubt.next_branch.Given as goal

abbrev pub invariant-loop-left : goal.invariant-loop-left
invariant-loop-left l = in_doubt_branches l.left ≡ branches_left l.fn.self

abbrev pub decreases-loop-left : goal.decreases-loop-left
decreases-loop-left l = length l.left
