-- The tables that are told, with those that are left, are all.
use Rattle.std.proofs.Common.{length}
use Rattle.std.specs.Prelude.{IsTrue}
use Rattle.drda_disk.specs.Disk.{Stays}
use Rattle.paged_tables.specs.TablesByName.{AreOnPages, LieInside, created_of}
use Rattle.store_dump.specs.Dump.{shown_table}
use Rattle.store_dump.proofs.Telling.{IsTelling}
use Rattle.store_dump.proofs.listing.list_tables.Given as goal

abbrev pub invariant-loop-table : goal.invariant-loop-table
invariant-loop-table g l = record {
  stays : Stays (g.D.Disk.life l.fn.disk) (g.D.Disk.life l.disk);
  inside : LieInside (length (g.D.Disk.life l.fn.disk).seen) l.left;
  told : IsTrue g.D.Disk.is_modelled → AreOnPages (g.D.Disk.life l.fn.disk).seen l.tables.tables → AreOnPages (g.D.Disk.life l.fn.disk).seen l.left × IsTelling shown_table (created_of l.tables.tables) l.left (g.W.Write.contents l.fn.out) (g.W.Write.contents l.out);
}

abbrev pub decreases-loop-table : goal.decreases-loop-table
decreases-loop-table g l = length l.left
