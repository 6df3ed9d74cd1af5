use Rattle.std.proofs.Common.{◌≡◌, length}
use Rattle.unit_records.specs.Together.{AreDue, branches_behind}
use Rattle.rdb_core.proofs.making.settle_all.Given as goal

abbrev pub invariant-loop-left : goal.invariant-loop-left
invariant-loop-left l = record {
  due : AreDue l.left l.branches;
  behind : branches_behind l.left l.branches ≡ branches_behind l.calls l.fn.branches;
}

abbrev pub decreases-loop-left : goal.decreases-loop-left
decreases-loop-left l = length l.left
