-- The claims so far are copied.
use Rattle.std.proofs.Common.{◌≡◌, take}
use Rattle.unit_table.proofs.plain.copied_claims.Given as goal

abbrev pub invariant-loop-i : goal.invariant-loop-i
invariant-loop-i l = l.copies.items ≡ take l.i l.claims
