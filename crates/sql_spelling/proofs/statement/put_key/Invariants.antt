-- What is written, and the names of the columns that are left, are the whole.
use Rattle.std.proofs.Common.{◌≡◌, ◌++◌, ◌∷◌, drop}
use Rattle.std.specs.List.{flat_map}
use Rattle.row_values.specs.Schema.{key_columns}
use Rattle.sql_spelling.specs.Text.{separated}
use Rattle.sql_spelling.proofs.statement.put_key.Given as goal

abbrev pub invariant-loop-i : goal.invariant-loop-i
invariant-loop-i l = l.out.items ++ flat_map (λ c. 44 ∷ 32 ∷ c.name) (drop l.i (key_columns l.schema)) ≡ l.fn.out.items ++ separated (λ c. c.name) (key_columns l.schema)
