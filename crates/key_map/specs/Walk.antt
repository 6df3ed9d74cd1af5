-- What an iterator over the rows has left.
use Rattle.std.specs.Prelude.{◌≡◌, ℕ, Bool, List, [], ◌∷◌, Option, Some, None}
use Rattle.std.specs.Borrow.{Bor}
use Rattle.std.specs.Ordering.{is_le}
use Rattle.key_map.specs.declared.walk.Rows.{Rows}
use Rattle.key_map.specs.Slots.{by_bytes, rows_of, slots_in}

abbrev pub rows_left : Rows → List (List ℕ × List ℕ)
rows_left r = rows_of (slots_in r.slots)

-- it gives the first row of those that are left, and none where none is left
abbrev pub GivesRow : Rows → Option (Bor (List ℕ) × Bor (List ℕ)) → Rows → Type 0
GivesRow old None new = (rows_left old ≡ []) × (rows_left new ≡ [])
GivesRow old (Some row) new = rows_left old ≡ (row.0.now, row.1.now) ∷ rows_left new

-- a row is not before this key
abbrev pub from_key : List ℕ → List ℕ × List ℕ → Bool
from_key start e = is_le (by_bytes start e.0)
