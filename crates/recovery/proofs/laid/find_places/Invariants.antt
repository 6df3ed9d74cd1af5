-- All have their places exactly where those that are left have theirs.
use Rattle.std.proofs.Common.{◌≡◌, length, map}
use Rattle.unit_journal.specs.Record.{entries_of}
use Rattle.unit_records.specs.Records.{entry_of as written}
use Rattle.paged_tables.specs.PagedTables.{store_in}
use Rattle.recovery.specs.Durable.{Doubts}
use Rattle.recovery.specs.Journal.{AreGood}
use Rattle.recovery.specs.Laying.{are_placed, records_of}
use Rattle.recovery.proofs.Prepares.{AreLeft}
use Rattle.recovery.proofs.laid.find_places.Given as goal

abbrev pub invariant-loop-left : goal.invariant-loop-left
invariant-loop-left l = (doubts : Doubts) → AreGood (records_of doubts) → entries_of l.records ≡ map written (records_of doubts) → AreLeft (store_in l.store) (entries_of l.left) (are_placed doubts (store_in l.store))

abbrev pub decreases-loop-left : goal.decreases-loop-left
decreases-loop-left l = length l.left
