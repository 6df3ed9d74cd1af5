use Rattle.std.proofs.Common.{◌≡◌, ◌++◌, drop, map}
use Rattle.row_values.specs.Column.{column_of}
use Rattle.row_values.specs.Value.{value_of}
use Rattle.sql_semantics.specs.Insert.{given, row_values}
use Rattle.sql_semantics.specs.Values.{all_places, literal_value}
use Rattle.sql_predicates.specs.Constant.{constant_value}
use Rattle.sql_changes.proofs.given.given_values.Given as goal

abbrev pub invariant-loop-column : goal.invariant-loop-column
invariant-loop-column l =
    let vs = map (literal_value (map value_of l.params)) l.literals in
    map constant_value l.row.items ++ map (given l.places vs) (all_places l.column (drop l.column (map column_of l.columns))) ≡ row_values (map column_of l.columns) vs l.places
