-- The rows that stand in front of bytes.
use Rattle.std.specs.Prelude.{ℕ, zero, suc, ◌+◌, List, [], ◌∷◌, length, take, drop, Option, Some, None, Bool, true, false, nat_le, if◌then◌else◌}
use Rattle.drda_words.specs.Number.{word}

-- the row in front, and what follows it
unfoldable pub row_at : List ℕ → Option (List ℕ × List ℕ)
row_at (high ∷ low ∷ bytes) = if nat_le (word high low) (length bytes) then Some (take (word high low) bytes, drop (word high low) bytes) else None
row_at bytes = None

-- n rows stand in front
abbrev pub has_behind : Option (List ℕ × List ℕ) → (List ℕ → Bool) → Bool
has_behind None more = false
has_behind (Some x) more = more x.1

abbrev pub has_rows : ℕ → List ℕ → Bool
has_rows zero bytes = true
has_rows (suc n) bytes = has_behind (row_at bytes) (has_rows n)

-- the first n rows, fewer where there are fewer
abbrev pub with_first : Option (List ℕ × List ℕ) → (List ℕ → List (List ℕ)) → List (List ℕ)
with_first None more = []
with_first (Some x) more = x.0 ∷ more x.1

abbrev pub rows_in : ℕ → List ℕ → List (List ℕ)
rows_in zero bytes = []
rows_in (suc n) bytes = with_first (row_at bytes) (rows_in n)

-- what follows the first n rows
abbrev pub rest_of : Option (List ℕ × List ℕ) → List ℕ → (List ℕ → List ℕ) → List ℕ
rest_of None bytes more = bytes
rest_of (Some x) bytes more = more x.1

abbrev pub behind_rows : ℕ → List ℕ → List ℕ
behind_rows zero bytes = bytes
behind_rows (suc n) bytes = rest_of (row_at bytes) bytes (behind_rows n)

-- where the first n rows from a place of the bytes on begin, each with its length
abbrev pub start_before : ℕ → Option (List ℕ × List ℕ) → (ℕ → List ℕ) → List ℕ
start_before at None more = []
start_before at (Some x) more = at ∷ more (at + 2 + length x.0)

abbrev pub row_starts : ℕ → ℕ → List ℕ → List ℕ
row_starts at zero bytes = []
row_starts at (suc n) bytes = start_before at (row_at (drop at bytes)) (λ next. row_starts next n bytes)
