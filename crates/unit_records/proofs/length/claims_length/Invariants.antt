-- The bytes so far and those of the claims to come, up to the greatest number; where those to come are
-- good, all are.
use Rattle.std.proofs.Common.{◌≡◌, ◌+◌, ◌-◌, ◌^◌, ◌<◌, min, length}
use Rattle.std.specs.List.{AllByRecursion, flat_map}
use Rattle.unit_locks.specs.Claim.{IsClaim, claim_bytes}
use Rattle.unit_records.proofs.length.claims_length.Given as goal

abbrev pub invariant-loop-left : goal.invariant-loop-left
invariant-loop-left l = record {
  small : l.sum < 2 ^ 64;
  sum : min (l.sum + length (flat_map claim_bytes l.left)) (2 ^ 64 - 1) ≡ min (length (flat_map claim_bytes l.claims)) (2 ^ 64 - 1);
  good : AllByRecursion IsClaim l.left → AllByRecursion IsClaim l.claims;
}

abbrev pub decreases-loop-left : goal.decreases-loop-left
decreases-loop-left l = length l.left
