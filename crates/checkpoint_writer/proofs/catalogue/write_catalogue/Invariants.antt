use Rattle.std.proofs.Common.{◌≡◌, length, map}
use Rattle.half_store.specs.Writing.{next_of}
use Rattle.checkpoint_writer.specs.Adding.{AddsPages}
use Rattle.checkpoint_writer.specs.Catalogue.{HaveNames, place_of}
use Rattle.checkpoint_writer.proofs.Listing.{IsListing}
use Rattle.checkpoint_writer.proofs.catalogue.write_catalogue.Given as goal

abbrev pub invariant-loop-left : goal.invariant-loop-left
invariant-loop-left g l = record {
  adds : AddsPages g.D.Disk.is_modelled (g.D.Disk.life l.fn.disk) (g.D.Disk.life l.disk) l.fn.image l.image;
  faults : (g.D.Disk.life l.disk).faults ≡ (g.D.Disk.life l.fn.disk).faults;
  names : HaveNames (map place_of l.left);
  lists : IsListing g.D.Disk.is_modelled (g.D.Disk.life l.disk).seen (next_of l.fn.image) l.image l.rows (map place_of l.left) (map place_of l.fn.tables);
}

abbrev pub decreases-loop-left : goal.decreases-loop-left
decreases-loop-left g l = length l.left
