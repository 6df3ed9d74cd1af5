-- The changes before those that are left are of the table.
use Rattle.std.proofs.Common.{◌≡◌, drop, map, true}
use Rattle.std.specs.List.{list_all}
use Rattle.tables.specs.Change.{is_change}
use Rattle.tables.specs.ChangeView.{change_of}
use Rattle.unit_changes.specs.Index.{AreOf}
use Rattle.unit_changes.proofs.index.are_of.Given as goal

abbrev pub invariant-loop-i : goal.invariant-loop-i
invariant-loop-i l = record {
  named : AreOf l.name (map change_of (drop l.i l.changes)) → AreOf l.name (map change_of l.changes);
  good : list_all is_change (map change_of (drop l.i l.changes)) ≡ true → list_all is_change (map change_of l.changes) ≡ true;
}
