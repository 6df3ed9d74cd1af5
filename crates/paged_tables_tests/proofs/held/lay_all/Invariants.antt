-- The tables that were laid lie inside of the disk.
use Rattle.std.proofs.Common.{◌≡◌, ◌+◌, ◌≤◌, length}
use Rattle.half_store.specs.Writing.{from_of, half_bytes_of}
use Rattle.paged_tables.specs.Stored.{LiesInside}
use Rattle.paged_tables.specs.TablesByName.{LieInside, created_of}
use Rattle.paged_tables_tests.proofs.Laying.{LaidSoFar}
use Rattle.paged_tables_tests.proofs.held.lay_all.Given as goal

abbrev pub invariant-loop-table : goal.invariant-loop-table
invariant-loop-table g l = record {
  size : length (g.D.Disk.life l.disk).seen ≡ length (g.D.Disk.life l.fn.disk).seen;
  inside : from_of l.image + half_bytes_of l.image ≤ length (g.D.Disk.life l.fn.disk).seen;
  lie : LieInside (length (g.D.Disk.life l.fn.disk).seen) l.left;
  laid : LaidSoFar (LiesInside (length (g.D.Disk.life l.fn.disk).seen)) (created_of l.fn.tables.tables) l.pages.items l.left;
}

abbrev pub decreases-loop-table : goal.decreases-loop-table
decreases-loop-table g l = length l.left
