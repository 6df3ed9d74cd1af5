-- The types so far, and of the names that are left.
use Rattle.std.proofs.Common.{◌≡◌, ◌++◌, length, map}
use Rattle.row_values.specs.Column.{column_of}
use Rattle.sql_semantics.specs.Describe as describe
use Rattle.sql_descriptions.proofs.types.named_types.Given as goal

abbrev pub invariant-names : goal.invariant-names
invariant-names l = l.types.items ++ map (describe.named_type (map column_of l.columns)) l.left ≡ map (describe.named_type (map column_of l.columns)) l.names

abbrev pub decreases-names : goal.decreases-names
decreases-names l = length l.left
