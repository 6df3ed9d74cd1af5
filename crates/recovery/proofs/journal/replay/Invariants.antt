-- What is left leads on as all the records lead, and stops where they stop; the pages stay.
use Rattle.std.proofs.Common.{ℕ, length}
use Rattle.unit_journal.specs.Record.{entries_of}
use Rattle.paged_tables.specs.PagedTables.{store_in}
use Rattle.paged_tables.specs.TablesByName.{PagesStay}
use Rattle.recovery.specs.Durable.{Durable, at_checkpoint}
use Rattle.recovery.specs.Known.{AreKnown}
use Rattle.recovery.specs.Replay.{durable_of, pages_of}
use Rattle.recovery.specs.Journal.{Leads, StopsAt}
use Rattle.recovery.proofs.journal.replay.Given as goal

abbrev pub invariant-loop-left : goal.invariant-loop-left
invariant-loop-left l = record {
  pages : PagesStay l.fn.checkpoint.tables (pages_of l.state);
  known : AreKnown l.layout (entries_of l.left) → AreKnown l.layout (entries_of l.records);
  leads : (d : Durable) → Leads (durable_of l.state) (entries_of l.left) d → Leads (at_checkpoint (store_in l.fn.checkpoint)) (entries_of l.records) d;
  stops : (at : ℕ) → StopsAt l.layout (durable_of l.state) l.left at → StopsAt l.layout (at_checkpoint (store_in l.fn.checkpoint)) l.records at;
}

abbrev pub decreases-loop-left : goal.decreases-loop-left
decreases-loop-left l = length l.left
