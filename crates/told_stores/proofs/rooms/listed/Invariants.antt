use Rattle.std.proofs.Common.{◌≡◌, ◌+◌, length, vec_items}
use Rattle.rdb_core.specs.InDoubt.{xids_left}
use Rattle.told_stores.proofs.rooms.listed.Given as goal

abbrev pub invariant-loop-xid : goal.invariant-loop-xid
invariant-loop-xid l = length (vec_items l.xids) + length (xids_left l.left) ≡ length (xids_left l.doubts)

abbrev pub decreases-loop-xid : goal.decreases-loop-xid
decreases-loop-xid l = length (xids_left l.left)
