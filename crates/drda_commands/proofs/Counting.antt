-- Counts that stay at the greatest value.
use Rattle.std.proofs.Common.{◌≡◌, ℕ, suc, ◌+◌, min, arith}

pub counts_one : (count next left most : ℕ) → next ≡ min (count + 1) most → min (next + left) most ≡ min (count + suc left) most
counts_one count next left most e = omega arith
