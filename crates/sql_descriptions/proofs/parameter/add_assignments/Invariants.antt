-- The types of the assignments so far, and of those that are left.
use Rattle.std.proofs.Common.{◌≡◌, ◌++◌, length, map}
use Rattle.std.specs.List.{flat_map}
use Rattle.row_values.specs.Column.{column_of}
use Rattle.sql_semantics.specs.Describe as describe
use Rattle.sql_descriptions.proofs.parameter.add_assignments.Given as goal

abbrev pub invariant-assignments : goal.invariant-assignments
invariant-assignments l = l.types.items ++ flat_map (describe.assignment_types (map column_of l.columns)) l.left ≡ l.fn.types.items ++ flat_map (describe.assignment_types (map column_of l.columns)) l.assignments

abbrev pub decreases-assignments : goal.decreases-assignments
decreases-assignments l = length l.left
