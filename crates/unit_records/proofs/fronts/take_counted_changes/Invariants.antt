-- The changes so far stand in front of the rest.
use Rattle.std.proofs.Common.{map}
use Rattle.tables.specs.Change.{change_bytes}
use Rattle.tables.specs.ChangeView.{change_of}
use Rattle.unit_records.specs.Records.{IsChange}
use Rattle.unit_records.proofs.Listing.{IsTaken}
use Rattle.unit_records.proofs.fronts.take_counted_changes.Given as goal

abbrev pub invariant-loop : goal.invariant-loop
invariant-loop l = IsTaken change_bytes IsChange l.bytes l.counter (map change_of l.changes.items) l.left
