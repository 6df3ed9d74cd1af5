-- Rows under the keys that they have.
use Rattle.std.specs.Prelude.{ℕ, List, [], ◌∷◌, Option, Some, None, option_map}
use Rattle.std.specs.Borrow.{Bor}
use Rattle.std.specs.Global.{Vec}
use Rattle.key_map.specs.Merging.{Rows}

abbrev pub keyed_rows : (List ℕ → List ℕ) → List (List ℕ) → Rows
keyed_rows key_of [] = []
keyed_rows key_of (row ∷ rows) = (key_of row, row) ∷ keyed_rows key_of rows

-- the key of the first row of a page; no bytes where it has none
abbrev pub first_key : (List ℕ → List ℕ) → List (List ℕ) → List ℕ
first_key key_of [] = []
first_key key_of (row ∷ rows) = key_of row

abbrev pub first_of : (List ℕ → List ℕ) → List (List ℕ) → Option (List ℕ)
first_of key_of [] = None
first_of key_of (row ∷ rows) = Some (key_of row)

abbrev pub first_keys : (List ℕ → List ℕ) → List (List (List ℕ)) → List (List ℕ)
first_keys key_of [] = []
first_keys key_of (page ∷ pages) = first_key key_of page ∷ first_keys key_of pages

-- a row where it lies, and a copy of it
abbrev pub seen : Option (Bor (List ℕ)) → Option (List ℕ)
seen row = option_map (λ r. r.now) row

abbrev pub copied : Option (Vec ℕ) → Option (List ℕ)
copied row = option_map (λ r. r.items) row
