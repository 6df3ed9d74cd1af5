use Rattle.std.proofs.Common.{◌≡◌, ◌+◌, true, length, map}
use Rattle.std.specs.List.{AllByRecursion, list_all}
use Rattle.half_store.specs.Writing.{next_of}
use Rattle.checkpoint_writer.specs.Adding.{AddsPages}
use Rattle.checkpoint_writer.specs.Catalogue.{HaveNames, place_of}
use Rattle.store_check.proofs.Moving.{is_good}
use Rattle.paged_tables.specs.TablesByName.{LieInside}
use Rattle.paged_checkpoints.specs.Apart.{AreReadable, LiesFrom}
use Rattle.paged_checkpoints.specs.Laying.{IsUnder, all_shown}
use Rattle.paged_checkpoints.proofs.Laid.{LaysSoFar}
use Rattle.paged_checkpoints.proofs.table_pages.write_tables.Given as goal

abbrev pub invariant-loop-table : goal.invariant-loop-table
invariant-loop-table g l = record {
  adds : AddsPages g.D.Disk.is_modelled (g.D.Disk.life l.fn.disk) (g.D.Disk.life l.disk) l.fn.image l.image;
  faults : (g.D.Disk.life l.disk).faults ≡ (g.D.Disk.life l.fn.disk).faults;
  inside : LieInside (length (g.D.Disk.life l.fn.disk).seen) l.left;
  good : list_all is_good (all_shown l.left) ≡ true;
  names : HaveNames (map place_of l.laid.places.items);
  under : AllByRecursion IsUnder l.left → AllByRecursion IsUnder l.fn.tables;
  lie : AllByRecursion (LiesFrom (next_of l.fn.image) (next_of l.image)) l.laid.pages.items;
  count : length l.laid.pages.items + length l.left ≡ length l.fn.tables;
  readable : AreReadable g.D.Disk.is_modelled (g.D.Disk.life l.fn.disk).seen l.fn.image l.fn.tables → AreReadable g.D.Disk.is_modelled (g.D.Disk.life l.disk).seen l.image l.left;
  laid : AreReadable g.D.Disk.is_modelled (g.D.Disk.life l.fn.disk).seen l.fn.image l.fn.tables
      → LaysSoFar g.D.Disk.is_modelled (g.D.Disk.life l.disk).seen l.fn.image l.image (map place_of l.laid.places.items) l.laid.pages.items l.left l.fn.tables;
}

abbrev pub decreases-loop-table : goal.decreases-loop-table
decreases-loop-table g l = length l.left
