use Rattle.std.proofs.Common.{length}
use Rattle.unit_locks.specs.Lists.{list_at}
use Rattle.unit_locks.proofs.Keeping.{Keeps}
use Rattle.unit_locks.proofs.index.keep_first.Given as goal

abbrev pub invariant-loop-units : goal.invariant-loop-units
invariant-loop-units l = Keeps l.fn.units.items l.units.items l.places.items l.holders.items l.unit l.count

abbrev pub decreases-loop-units : goal.decreases-loop-units
decreases-loop-units l = length (list_at l.units.items l.unit)
