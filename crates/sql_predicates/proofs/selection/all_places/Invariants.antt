use Rattle.std.proofs.Common.{◌≡◌, ◌++◌, map, drop}
use Rattle.row_values.specs.Column.{column_of}
use Rattle.sql_semantics.specs.Values as values
use Rattle.sql_predicates.proofs.selection.all_places.Given as goal

abbrev pub invariant-loop-place : goal.invariant-loop-place
invariant-loop-place l = l.places.items ++ values.all_places l.place (drop l.place (map column_of l.columns)) ≡ values.all_places 0 (map column_of l.columns)
