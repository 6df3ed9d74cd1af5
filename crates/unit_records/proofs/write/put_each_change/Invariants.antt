-- The bytes so far, with those of the changes to come, are those of all changes; what was there stays.
use Rattle.std.proofs.Common.{◌≡◌, ◌++◌, length, map}
use Rattle.std.specs.List.{flat_map}
use Rattle.row_values.specs.Bytes.{Keeps}
use Rattle.tables.specs.Change.{change_bytes}
use Rattle.tables.specs.ChangeView.{change_of}
use Rattle.unit_records.proofs.write.put_each_change.Given as goal

abbrev pub invariant-loop-left : goal.invariant-loop-left
invariant-loop-left l = record {
  bytes : l.out.items ++ flat_map change_bytes (map change_of l.left) ≡ l.fn.out.items ++ flat_map change_bytes (map change_of l.changes);
  kept : Keeps l.fn.out.items l.out.items;
}

abbrev pub decreases-loop-left : goal.decreases-loop-left
decreases-loop-left l = length l.left
