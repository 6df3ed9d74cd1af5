-- The bytes so far, with those of the claims to come, are those of all claims; what was there stays.
use Rattle.std.proofs.Common.{◌≡◌, ◌++◌, length}
use Rattle.std.specs.List.{flat_map}
use Rattle.row_values.specs.Bytes.{Keeps}
use Rattle.unit_locks.specs.Claim.{claim_bytes}
use Rattle.unit_records.proofs.write.put_each_claim.Given as goal

abbrev pub invariant-loop-left : goal.invariant-loop-left
invariant-loop-left l = record {
  bytes : l.out.items ++ flat_map claim_bytes l.left ≡ l.fn.out.items ++ flat_map claim_bytes l.claims;
  kept : Keeps l.fn.out.items l.out.items;
}

abbrev pub decreases-loop-left : goal.decreases-loop-left
decreases-loop-left l = length l.left
