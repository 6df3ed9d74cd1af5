use Rattle.std.proofs.Common.{◌≡◌, false, take}
use Rattle.std.specs.List.{list_any}
use Rattle.unit_locks.specs.Index.{clashes_there}
use Rattle.unit_locks.specs.Lists.{list_at}
use Rattle.unit_locks.proofs.place.other_unit.Given as goal

abbrev pub invariant-loop-place : goal.invariant-loop-place
invariant-loop-place l = list_any (clashes_there (λ u. list_at l.units u) l.unit l.claim l.hash) (take l.place-index l.places) ≡ false
