-- The changes of a table since its pages were written.
use Rattle.std.specs.Prelude.{ℕ, List, [], ◌∷◌, Option, Some, None, map, option_map}
use Rattle.std.specs.Borrow.{Bor}
use Rattle.key_map.specs.Slots.{Slots, rows_of}
use Rattle.key_map.specs.Merging.{Changes}

-- what an entry says: a row of no bytes stands for one that was taken out
abbrev pub said : List ℕ → Option (List ℕ)
said [] = None
said (b ∷ bytes) = Some (b ∷ bytes)

abbrev pub change_of : List ℕ × List ℕ → List ℕ × Option (List ℕ)
change_of e = (e.0, said e.1)

abbrev pub changes_of : Slots → Changes
changes_of slots = map change_of (rows_of slots)

-- a row where it lies
abbrev pub seen : Option (Bor (List ℕ)) → Option (List ℕ)
seen row = option_map (λ r. r.now) row
