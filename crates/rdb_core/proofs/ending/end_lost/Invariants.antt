use Rattle.std.proofs.Common.{◌≡◌, drop}
use Rattle.core_model.specs.Step.{lost_xids}
use Rattle.rdb_core.specs.Steps.{left_units}
use Rattle.rdb_core.proofs.ending.end_lost.Given as goal

abbrev pub invariant-loop-branch : goal.invariant-loop-branch
invariant-loop-branch l = left_units (lost_xids (drop l.branch-index l.branches) l.conversation) l.units ≡ left_units (lost_xids l.branches l.conversation) l.fn.units
