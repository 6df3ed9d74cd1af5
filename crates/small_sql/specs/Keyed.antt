-- The rows of a key.
use Rattle.std.specs.Prelude.{ℕ, List, [], Option, Some, None}
use Rattle.std.specs.Option.{option_to_list}
use Rattle.tables.specs.Tables.{Store, row_of}

-- the row that a table of a store has at a key, where it has one; none where no key is given
abbrev pub rows_of_key : Option (List ℕ) → List ℕ → Store → List (List ℕ)
rows_of_key None table s = []
rows_of_key (Some key) table s = option_to_list (row_of s table key)
