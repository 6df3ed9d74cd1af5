-- The room that rows can take at most.
use Rattle.std.specs.Prelude.{ℕ, ◌+◌, ◌*◌, ◌/◌, List, [], ◌∷◌, length}

-- the bytes of rows in pages, each behind its length in two
abbrev pub bytes_of : List (List ℕ × List ℕ) → ℕ
bytes_of [] = 0
bytes_of (e ∷ es) = 2 + length e.1 + bytes_of es

-- At most so many pages rows take that filled so many, with rows of so many bytes besides: any two pages one behind another
-- have 8,190 bytes of rows at least.
abbrev pub most_by_bytes : ℕ → ℕ → ℕ
most_by_bytes pages bytes = 1 + (2 * (8189 * pages + bytes)) / 8190
