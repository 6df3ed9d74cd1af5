use Rattle.std.proofs.Common.{◌≡◌, length}
use Rattle.recovery.specs.Replay.{doubts_in}
use Rattle.paged_tables.specs.TablesByName.{PagesStay}
use Rattle.rdb_core.specs.State.{pages_of, recorder_of, state_of}
use Rattle.durable_core.proofs.Doubted.{IsUnderWay}
use Rattle.durable_core.proofs.restoring.restore_all.Given as goal

abbrev pub invariant-loop-unit : goal.invariant-loop-unit
invariant-loop-unit g l =
    record {
      way : IsUnderWay (state_of l.fn.core).base.store (doubts_in l.fn.units.items) l.left.items (state_of l.core);
      recorder : recorder_of l.core ≡ recorder_of l.fn.core;
      pages : PagesStay (pages_of l.fn.core) (pages_of l.core);
    }

abbrev pub decreases-loop-unit : goal.decreases-loop-unit
decreases-loop-unit g l = length l.left.items
