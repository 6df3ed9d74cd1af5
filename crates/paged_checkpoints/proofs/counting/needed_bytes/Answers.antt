-- What is left of the tables is counted behind those that were.
use Rattle.std.proofs.Common.{◌≡◌, ◌+◌, refl, ap, arith}
use Rattle.drda_disk.proofs.Moments.{Stays-refl}
use Rattle.row_pages.specs.Laying.{counted}
use Rattle.checkpoint_writer.specs.Catalogue.{rows_of}
use Rattle.store_check.specs.Room.{entries_from, pages_of_tables}
use Rattle.store_check.proofs.Moving.{good_all}
use Rattle.paged_checkpoints.specs.Laying.{all_shown}
use Rattle.paged_checkpoints.proofs.counting.needed_bytes.Goals as goal

pub loop-table-init : goal.loop-table-init
loop-table-init g c = record {
  stays = Stays-refl (g.D.Disk.life c.args.disk.now);
  faults = refl;
  inside = c.requires.tables;
  good = good_all (all_shown c.args.tables) c.requires.store;
  stand = λ all. all;
  tables = λ honest all. let same : 0 + pages_of_tables (all_shown c.args.tables) ≡ pages_of_tables (all_shown c.args.tables) = omega arith in ap counted same;
  catalogue = (0, c.new.ensures (rows_of (entries_from 0 (all_shown c.args.tables))));
}
