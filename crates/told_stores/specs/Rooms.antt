-- How much a store holds, as text: a word and its value on each line.
use Rattle.std.specs.Prelude.{ℕ, List, [], ◌∷◌, ◌++◌, codes}
use Rattle.std.specs.Fmt.{decimal}
use Rattle.turns.specs.declared.gauge.Gauge.{Gauge}

-- the bytes of the store; those that are left for records, of all of its journal
abbrev pub journal_lines : ℕ → ℕ → ℕ → List ℕ
journal_lines size room journal = codes "size " ++ decimal size ++ codes "\nroom " ++ decimal room ++ codes " of " ++ decimal journal ++ 10 ∷ []

-- those that the tables take, of a half; how many units are in doubt
abbrev pub table_lines : ℕ → ℕ → ℕ → List ℕ
table_lines tables half doubts = codes "tables " ++ decimal tables ++ codes " of " ++ decimal half ++ codes "\nindoubt " ++ decimal doubts ++ 10 ∷ []

-- the name, and these lines behind it
abbrev pub room_text : List ℕ → ℕ → Gauge → ℕ → List ℕ
room_text name size gauge doubts = ((codes "name " ++ name ++ 10 ∷ []) ++ journal_lines size gauge.room gauge.journal) ++ table_lines gauge.tables gauge.half doubts
