use Rattle.std.proofs.Common.{◌≡◌, length, map}
use Rattle.checkpoint_writer.specs.Catalogue.{entry_of}
use Rattle.store_check.specs.Listed.{names_rise}
use Rattle.store_check.proofs.listing.names_rise.Given as goal

abbrev pub invariant-loop-left : goal.invariant-loop-left
invariant-loop-left l = names_rise (map entry_of l.left) ≡ names_rise (map entry_of l.tables)

abbrev pub decreases-loop-left : goal.decreases-loop-left
decreases-loop-left l = length l.left
