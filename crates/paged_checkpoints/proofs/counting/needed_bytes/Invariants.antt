use Rattle.std.proofs.Common.{◌≡◌, ℕ, ◌+◌, true, length}
use Rattle.std.specs.Prelude.{IsTrue}
use Rattle.std.specs.List.{list_all}
use Rattle.drda_disk.specs.Disk.{Stays}
use Rattle.row_pages.specs.Laying.{counted, pages_with}
use Rattle.checkpoint_writer.specs.Catalogue.{rows_of}
use Rattle.store_check.specs.Room.{entries_from, pages_of_catalogue, pages_of_tables}
use Rattle.store_check.proofs.Moving.{is_good}
use Rattle.paged_tables.specs.TablesByName.{AreOnPages, LieInside}
use Rattle.paged_checkpoints.specs.Laying.{all_shown}
use Rattle.paged_checkpoints.proofs.counting.needed_bytes.Given as goal

abbrev pub invariant-loop-table : goal.invariant-loop-table
invariant-loop-table g l = record {
  stays : Stays (g.D.Disk.life l.fn.disk) (g.D.Disk.life l.disk);
  faults : (g.D.Disk.life l.disk).faults ≡ (g.D.Disk.life l.fn.disk).faults;
  inside : LieInside (length (g.D.Disk.life l.fn.disk).seen) l.left;
  good : list_all is_good (all_shown l.left) ≡ true;
  stand : AreOnPages (g.D.Disk.life l.fn.disk).seen l.fn.tables → AreOnPages (g.D.Disk.life l.fn.disk).seen l.left;
  tables : IsTrue g.D.Disk.is_modelled → AreOnPages (g.D.Disk.life l.fn.disk).seen l.fn.tables → counted (l.pages.tables + pages_of_tables (all_shown l.left)) ≡ counted (pages_of_tables (all_shown l.fn.tables));
  catalogue : (next : ℕ) × (pages_with l.pages.catalogue (rows_of (entries_from next (all_shown l.left))) ≡ counted (pages_of_catalogue (all_shown l.fn.tables)));
}

abbrev pub decreases-loop-table : goal.decreases-loop-table
decreases-loop-table g l = length l.left
