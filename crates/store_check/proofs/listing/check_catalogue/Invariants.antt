use Rattle.std.proofs.Common.{◌≡◌, true, map}
use Rattle.std.specs.Prelude.{IsTrue}
use Rattle.drda_disk.specs.Disk.{Stays}
use Rattle.checkpoint_writer.specs.Catalogue.{entry_of}
use Rattle.store_check.specs.Listed.{are_listed}
use Rattle.store_check.proofs.Listed.{AreFound}
use Rattle.store_check.proofs.listing.check_catalogue.Given as goal

abbrev pub invariant-loop-page : goal.invariant-loop-page
invariant-loop-page g l = record {
  stays : Stays (g.D.Disk.life l.fn.pager) (g.D.Disk.life l.pager);
  faults : (g.D.Disk.life l.pager).faults ≡ (g.D.Disk.life l.fn.pager).faults;
  listed : are_listed l.last (map entry_of l.tables.items) ≡ true;
  found : IsTrue g.D.Disk.is_modelled → AreFound (g.D.Disk.life l.fn.pager).seen l.at l.page (map entry_of l.tables.items);
}
