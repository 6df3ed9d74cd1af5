use Rattle.std.proofs.Common.{◌≡◌, ◌≤◌, length, map}
use Rattle.checkpoint_writer.specs.Catalogue.{entry_of}
use Rattle.store_check.specs.Listed.{lie_from}
use Rattle.store_check.proofs.listing.lie_from_first.Given as goal

abbrev pub invariant-loop-left : goal.invariant-loop-left
invariant-loop-left l = record {
  within : l.next ≤ l.last;
  same : lie_from l.next l.last (map entry_of l.left) ≡ lie_from 0 l.last (map entry_of l.tables);
}

abbrev pub decreases-loop-left : goal.decreases-loop-left
decreases-loop-left l = length l.left
