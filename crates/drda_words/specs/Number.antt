-- Numbers of two bytes, the high byte first, as all numbers of the protocol are.
use Rattle.std.specs.Prelude.{◌≡◌, ℕ, ◌+◌, ◌*◌, [], ◌∷◌}
use Rattle.std.specs.Int.{w16, from_be_bytes}

-- the number that two bytes are
abbrev pub word : ℕ → ℕ → ℕ
word high low = from_be_bytes w16 (high ∷ low ∷ [])

-- which is this one
abbrev pub WordsAreNumbers : Type 0
WordsAreNumbers = (high low : ℕ) → word high low ≡ 256 * high + low
