-- The values of the places so far stand before those of the others.
use Rattle.std.proofs.Common.{◌≡◌, ◌++◌, map, drop, option_map}
use Rattle.row_values.specs.Column.{column_of}
use Rattle.row_values.specs.Value.{value_of}
use Rattle.sql_predicates.specs.Constant.{constant_value}
use Rattle.sql_semantics.specs.Scope as scope
use Rattle.sql_predicates.proofs.key.all_fixed.Given as goal

abbrev pub invariant-loop-place : goal.invariant-loop-place
invariant-loop-place l =
    option_map (λ vs. map constant_value l.constants.items ++ vs) (scope.all_fixed (map value_of l.params) (map column_of l.columns) (drop l.place-index l.places) l.parts)
    ≡ scope.all_fixed (map value_of l.params) (map column_of l.columns) l.places l.parts
