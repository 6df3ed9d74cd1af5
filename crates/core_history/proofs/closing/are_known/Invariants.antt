use Rattle.std.proofs.Common.{◌↔◌, length}
use Rattle.core_history.specs.Passes.{AreKnown}
use Rattle.core_history.proofs.closing.are_known.Given as goal

abbrev pub invariant-loop-left : goal.invariant-loop-left
invariant-loop-left l = AreKnown l.left l.places ↔ AreKnown l.passes l.places

abbrev pub decreases-loop-left : goal.decreases-loop-left
decreases-loop-left l = length l.left
