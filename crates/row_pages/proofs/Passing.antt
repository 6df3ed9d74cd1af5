-- The rows in front of bytes, one after another.
use Rattle.std.proofs.Common.{◌≡◌, ℕ, zero, suc, ◌-◌, ◌<◌, List, ap, arith}
use Rattle.std.specs.Prelude.{Some}
use Rattle.row_pages.specs.Reading.{row_at, has_rows, has_behind, rest_of, behind_rows}

-- past the first row
pub has_past : (n : ℕ) (bytes row rest : List ℕ) → 0 < n → row_at bytes ≡ Some (row, rest) → has_rows n bytes ≡ has_rows (n - 1) rest
has_past zero bytes row rest some e = absurd (omega arith)
has_past (suc n) bytes row rest some e = let one : suc n - 1 ≡ n = omega arith in rw one (ap (λ o. has_behind o (has_rows n)) e)

pub behind_past : (n : ℕ) (bytes row rest : List ℕ) → 0 < n → row_at bytes ≡ Some (row, rest) → behind_rows n bytes ≡ behind_rows (n - 1) rest
behind_past zero bytes row rest some e = absurd (omega arith)
behind_past (suc n) bytes row rest some e = let one : suc n - 1 ≡ n = omega arith in rw one (ap (λ o. rest_of o bytes (behind_rows n)) e)
