-- What is written, and the columns that are left, are the whole.
use Rattle.std.proofs.Common.{◌≡◌, ◌++◌, ◌∷◌, length, map}
use Rattle.std.specs.List.{flat_map}
use Rattle.row_values.specs.Column.{column_of}
use Rattle.sql_spelling.specs.Text.{column_text}
use Rattle.sql_spelling.proofs.statement.put_further_columns.Given as goal

abbrev pub invariant-loop-columns : goal.invariant-loop-columns
invariant-loop-columns l = l.out.items ++ flat_map (λ c. 44 ∷ 32 ∷ column_text c) (map column_of l.columns) ≡ l.initial.out.items ++ flat_map (λ c. 44 ∷ 32 ∷ column_text c) (map column_of l.initial.columns)

abbrev pub decreases-loop-columns : goal.decreases-loop-columns
decreases-loop-columns l = length l.columns
