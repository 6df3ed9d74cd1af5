-- The records so far, and those of the XIDs that are left, are those of all branches in doubt.
use Rattle.std.proofs.Common.{◌≡◌, ◌++◌, length}
use Rattle.unit_journal.specs.Record.{entries_of}
use Rattle.rdb_core.specs.InDoubt.{xids_left}
use Rattle.rdb_core.specs.State.{state_of}
use Rattle.xa_manager.specs.Branch.{in_doubt_xids}
use Rattle.durable_core.proofs.Laid.{records_by}
use Rattle.durable_core.proofs.checkpointing.records_in.Given as goal

abbrev pub invariant-loop-xid : goal.invariant-loop-xid
invariant-loop-xid g l = entries_of l.records.items ++ records_by (state_of l.core) (xids_left l.xids) ≡ records_by (state_of l.core) (in_doubt_xids (state_of l.core).branches)

abbrev pub decreases-loop-xid : goal.decreases-loop-xid
decreases-loop-xid g l = length (xids_left l.xids)
