use Rattle.unit_table.proofs.Adding.{IsAdding}
use Rattle.unit_locks.specs.Claims.{claims_of}
use Rattle.unit_table.proofs.claiming.add_all.Given as goal

abbrev pub invariant-loop-claim : goal.invariant-loop-claim
invariant-loop-claim l = IsAdding l.unit.0 (claims_of l.initial.claims) (claims_of l.claims) l.yielded
