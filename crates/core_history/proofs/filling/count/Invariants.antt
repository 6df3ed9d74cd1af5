use Rattle.std.proofs.Common.{◌≡◌, ◌+◌, length}
use Rattle.rdb_core.specs.InDoubt.{xids_left}
use Rattle.core_history.proofs.filling.count.Given as goal

abbrev pub invariant-loop-counted : goal.invariant-loop-counted
invariant-loop-counted l = l.counted + length (xids_left l.left) ≡ length (xids_left l.doubts)
