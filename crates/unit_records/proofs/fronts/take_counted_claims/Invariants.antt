-- The claims so far stand in front of the rest.
use Rattle.unit_locks.specs.Claim.{IsClaim, claim_bytes}
use Rattle.unit_records.proofs.Listing.{IsTaken}
use Rattle.unit_records.proofs.fronts.take_counted_claims.Given as goal

abbrev pub invariant-loop : goal.invariant-loop
invariant-loop l = IsTaken claim_bytes IsClaim l.bytes l.counter l.claims.items l.left
