-- Going over the rows of a page.
use Rattle.std.specs.Prelude.{◌≡◌, ℕ, ◌+◌, ◌≤◌, true, false, List, [], ◌∷◌, length, drop, Option, Some, None}
use Rattle.std.specs.Borrow.{Bor}
use Rattle.row_pages.specs.Reading.{has_rows, behind_rows, row_at, row_starts}

-- the first row of those that are left, and none where none is left
abbrev pub GivesRow : List (List ℕ) → Option (Bor (List ℕ)) → List (List ℕ) → Type 0
GivesRow old None new = (old ≡ []) × (new ≡ [])
GivesRow old (Some row) new = old ≡ row.now ∷ new

-- what follows the first n rows of bytes, where they have so many
abbrev pub StandsBehind : ℕ → List ℕ → Option (Bor (List ℕ)) → Type 0
StandsBehind n bytes None = has_rows n bytes ≡ false
StandsBehind n bytes (Some rest) = (has_rows n bytes ≡ true) × (rest.now ≡ behind_rows n bytes)

-- the row at a place of bytes ends here; none where no row stands there
pub record EndsRow (bytes : List ℕ) (at end : ℕ) : Type 0 where
  pub row : List ℕ
  pub is : row_at (drop at bytes) ≡ Some (row, drop end bytes)
  pub size : end ≡ at + 2 + length row
  pub within : end ≤ length bytes

abbrev pub EndsAt : List ℕ → ℕ → Option ℕ → Type 0
EndsAt bytes at None = row_at (drop at bytes) ≡ None
EndsAt bytes at (Some end) = EndsRow bytes at end

-- so many rows stand behind the three bytes of a page's head, and these are the places where they begin, and where the
-- last one ends
pub record ArePlaced (count : ℕ) (bytes starts : List ℕ) (end : ℕ) : Type 0 where
  pub has : has_rows count (drop 3 bytes) ≡ true
  pub same : starts ≡ row_starts 3 count bytes
  pub behind : behind_rows count (drop 3 bytes) ≡ drop end bytes
  pub within : end ≤ length bytes

abbrev pub Places : ℕ → List ℕ → List ℕ → Option ℕ → Type 0
Places count bytes starts None = has_rows count (drop 3 bytes) ≡ false
Places count bytes starts (Some end) = ArePlaced count bytes starts end
