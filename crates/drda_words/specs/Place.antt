-- A slice of a text at a place.
use Rattle.std.specs.Prelude.{◌≡◌, ◌≤◌, ℕ, ◌+◌, List, length, take, drop}

-- the n bytes of a text from a place on, fewer where the text ends before
abbrev pub part : List ℕ → ℕ → ℕ → List ℕ
part text at n = take n (drop at text)

-- these bytes stand in the text from that place on
abbrev pub StandsAt : List ℕ → ℕ → List ℕ → Type 0
StandsAt text at bytes = (at + length bytes ≤ length text) × (part text at (length bytes) ≡ bytes)
