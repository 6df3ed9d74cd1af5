use Rattle.std.proofs.Common.{◌≡◌, length}
use Rattle.unit_records.specs.Together.{are_apart}
use Rattle.rdb_core.proofs.together.are_apart.Given as goal

abbrev pub invariant-loop-left : goal.invariant-loop-left
invariant-loop-left l = are_apart l.left ≡ are_apart l.calls

abbrev pub decreases-loop-left : goal.decreases-loop-left
decreases-loop-left l = length l.left
