-- What is held so far, and by those that are left, is held by all branches in doubt; each holds 293 bytes at most.
use Rattle.std.proofs.Common.{◌≡◌, ◌+◌, ◌*◌, ◌≤◌, length}
use Rattle.half_store.specs.declared.header.Layout.TheVariants.{Two}
use Rattle.rdb_core.specs.InDoubt.{xids_left}
use Rattle.rdb_core.specs.State.{state_of}
use Rattle.recovery.specs.Laws.{held_for}
use Rattle.recovery.specs.Part.{durable_part}
use Rattle.durable_core.proofs.Laid.{doubts_by}
use Rattle.durable_core.proofs.checkpointing.held_in.Given as goal

abbrev pub invariant-loop-xid : goal.invariant-loop-xid
invariant-loop-xid g l = record {
  sum : l.held + held_for Two (doubts_by (state_of l.core) (xids_left l.xids)) ≡ held_for Two (durable_part (state_of l.core)).doubts;
  low : l.held + 293 * length (xids_left l.xids) ≤ 293 * 256;
}

abbrev pub decreases-loop-xid : goal.decreases-loop-xid
decreases-loop-xid g l = length (xids_left l.xids)
