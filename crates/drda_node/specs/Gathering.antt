-- Answers that are gathered before they are written.
use Rattle.std.specs.Prelude.{◌≡◌, ◌⊎◌, ◌+◌, ℕ, List, [], ◌++◌, Option, take}
use Rattle.std.specs.Io.KnownBytes.{Appends}
use Rattle.drda_node.specs.declared.serving.RunEnd.{RunEnd}
use Rattle.drda_node.specs.declared.serving.RunEnd.TheVariants.{WriteFault}

-- the answer is gathered behind the others and nothing is written, or all of them are written
abbrev pub PassesOn : Option (List ℕ) → List ℕ → List ℕ → Option (List ℕ) → List ℕ → Type 0
PassesOn before gathered answer now left =
    (Appends before now [] × (left ≡ gathered ++ answer))
    ⊎ (Appends before now (gathered ++ answer) × (left ≡ []))

-- a front of them is written
abbrev pub WritesFront : Option (List ℕ) → Option (List ℕ) → List ℕ → List ℕ → Type 0
WritesFront before now gathered answer = (count : ℕ) × Appends before now (take count (gathered ++ answer))

-- what was gathered is written, or a front of it, and that is how the run ends
abbrev pub Ends : Option (List ℕ) → List ℕ → RunEnd → RunEnd → Option (List ℕ) → Type 0
Ends before gathered end result now =
    ((result ≡ end) × Appends before now gathered)
    ⊎ ((result ≡ WriteFault) × ((count : ℕ) × Appends before now (take count gathered)))

-- how many writes had failed before and behind it: one more exactly where that is told
abbrev pub CountsEnd : RunEnd → RunEnd → ℕ → ℕ → Type 0
CountsEnd end result old new = ((result ≡ end) × (new ≡ old)) ⊎ ((result ≡ WriteFault) × (new ≡ old + 1))
