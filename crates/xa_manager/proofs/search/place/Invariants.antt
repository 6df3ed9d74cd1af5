use Rattle.std.proofs.Common.{◌-◌}
use Rattle.xa_manager.proofs.Places.{IsLeft}
use Rattle.xa_manager.proofs.search.place.Given as goal

abbrev pub invariant-loop-low : goal.invariant-loop-low
invariant-loop-low l = IsLeft l.branches l.xid l.low l.high

abbrev pub decreases-loop-low : goal.decreases-loop-low
decreases-loop-low l = l.high - l.low
