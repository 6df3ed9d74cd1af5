-- Lists of numbers that are bytes.
use Rattle.std.specs.Prelude.{◌<◌, ℕ, List, ◌++◌, slice_index}

-- each item is below 256
abbrev pub AreBytes : List ℕ → Type 0
AreBytes bytes = (i : ℕ) → slice_index bytes i < 256

-- both parts of bytes are bytes
abbrev pub PartsAreBytes : Type 0
PartsAreBytes = (front rest : List ℕ) → AreBytes (front ++ rest) → AreBytes front × AreBytes rest
