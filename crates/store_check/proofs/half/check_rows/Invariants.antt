use Rattle.std.proofs.Common.{◌≡◌, ◌≤◌, ◌++◌, true, map}
use Rattle.std.specs.Prelude.{IsTrue}
use Rattle.std.specs.List.{AllByRecursion}
use Rattle.drda_disk.specs.Disk.{Stays}
use Rattle.checkpoint_writer.specs.Catalogue.{entry_of}
use Rattle.store_check.specs.Listed.{lie_from}
use Rattle.store_check.specs.Half.{LiesBehind, LiesBelow, NotesTable, entry_in, page_at}
use Rattle.store_check.proofs.Tables.{AreChecked}
use Rattle.store_check.proofs.half.check_rows.Given as goal

abbrev pub invariant-loop-table : goal.invariant-loop-table
invariant-loop-table g l = record {
  stays : Stays (g.D.Disk.life l.fn.pager) (g.D.Disk.life l.pager);
  faults : (g.D.Disk.life l.pager).faults ≡ (g.D.Disk.life l.fn.pager).faults;
  low : l.next ≤ l.first;
  lie : lie_from l.next l.first (map entry_of l.table-iterator.rest.items) ≡ true;
  inside : AllByRecursion (LiesBelow (page_at l.at l.first)) l.checked.items;
  behind : AllByRecursion (LiesBehind l.at) l.checked.items;
  good : AllByRecursion (NotesTable (g.K.KeysBySchema.key_of l.keys)) l.checked.items;
  same : map entry_in l.checked.items ++ map entry_of l.table-iterator.rest.items ≡ map entry_of l.fn.tables.items;
  checked : IsTrue g.D.Disk.is_modelled
      → AreChecked (g.K.KeysBySchema.key_of l.keys) (g.D.Disk.life l.fn.pager).seen l.at (map entry_of l.fn.tables.items) (map entry_of l.table-iterator.rest.items) l.next l.checked.items;
}
