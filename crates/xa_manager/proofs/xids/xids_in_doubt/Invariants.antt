use Rattle.std.proofs.Common.{◌≡◌, ◌++◌, drop}
use Rattle.xa_manager.specs.Branch.{in_doubt_xids}
use Rattle.xa_manager.proofs.xids.xids_in_doubt.Given as goal

-- those so far, and those among the branches that are left
abbrev pub invariant-loop-branch : goal.invariant-loop-branch
invariant-loop-branch l = l.xids.items ++ in_doubt_xids (drop l.branch-index l.branches) ≡ in_doubt_xids l.branches
