use Rattle.std.proofs.Common.{◌≡◌, ◌++◌, length, map}
use Rattle.row_values.specs.Column.{column_of}
use Rattle.sql_semantics.specs.Create.{defined_column}
use Rattle.sql_changes.proofs.creation.defined_columns.Given as goal

abbrev pub invariant-definitions : goal.invariant-definitions
invariant-definitions l = map column_of l.columns.items ++ map (defined_column l.key) l.left ≡ map (defined_column l.key) l.definitions

abbrev pub decreases-definitions : goal.decreases-definitions
decreases-definitions l = length l.left
