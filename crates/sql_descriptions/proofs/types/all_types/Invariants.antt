-- The types so far, and of the columns that are left.
use Rattle.std.proofs.Common.{◌≡◌, ◌++◌, length, map, Some}
use Rattle.row_values.specs.Column.{column_of}
use Rattle.sql_semantics.specs.Describe as describe
use Rattle.sql_descriptions.proofs.types.all_types.Given as goal

abbrev pub invariant-columns : goal.invariant-columns
invariant-columns l = l.types.items ++ map (λ c. describe.type_of (Some c)) (map column_of l.left) ≡ map (λ c. describe.type_of (Some c)) (map column_of l.columns)

abbrev pub decreases-columns : goal.decreases-columns
decreases-columns l = length l.left
