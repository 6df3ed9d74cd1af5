-- What a builder's buffer shows: the text before the first open container, and the data of each so far.
use Rattle.std.specs.Prelude.{ℕ, ◌+◌, ◌≤◌, List, [], ◌∷◌, length, take, drop}
use Rattle.ddm_objects.specs.declared.writing.Opened.{Opened}
use Rattle.ddm_objects.specs.Writing.{Writing}

-- the open containers, the innermost first: each one's data stand behind its four bytes
abbrev pub writing_of : List ℕ → List Opened → Writing
writing_of buffer [] = record { text = buffer; containers = [] }
writing_of buffer (c ∷ cs) =
    let around = writing_of (take c.at buffer) cs in
    record { text = around.text; containers = record { code = c.code; value = drop (c.at + 4) buffer } ∷ around.containers }

-- each container begins in the data of the one around it
abbrev pub IsNested : List ℕ → List Opened → Type 0
IsNested buffer [] = Unit {0}
IsNested buffer (c ∷ cs) = (c.at + 4 ≤ length buffer) × IsNested (take c.at buffer) cs
