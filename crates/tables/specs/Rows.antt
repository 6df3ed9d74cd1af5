-- Rows in one buffer.
use Rattle.std.specs.Prelude.{ℕ, ◌+◌, ◌-◌, Bool, List, [], ◌∷◌, ◌&&◌, ◌==◌, length, nat_le}
use Rattle.drda_words.specs.Place.{part}

-- the pieces of the bytes that end at these places, the first one beginning at start
abbrev pub pieces : ℕ → List ℕ → List ℕ → List (List ℕ)
pieces start [] bytes = []
pieces start (end ∷ ends) bytes = part bytes start (end - start) ∷ pieces end ends bytes

-- the places never fall, from start on up to the number of bytes
abbrev pub are_ends : ℕ → List ℕ → ℕ → Bool
are_ends start [] count = start == count
are_ends start (end ∷ ends) count = nat_le start end && are_ends end ends count

-- the bytes that rows take in memory: their own, and 8 for where each ends
abbrev pub memory_of : List (List ℕ) → ℕ
memory_of [] = 0
memory_of (row ∷ rows) = length row + 8 + memory_of rows
