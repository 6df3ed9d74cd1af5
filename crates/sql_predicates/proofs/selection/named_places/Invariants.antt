use Rattle.std.proofs.Common.{◌≡◌, [], map, drop}
use Rattle.row_values.specs.Column.{column_of}
use Rattle.sql_semantics.specs.Classes as classes
use Rattle.sql_predicates.proofs.selection.named_places.Given as goal

abbrev pub invariant-loop-name : goal.invariant-loop-name
invariant-loop-name l = classes.named_places (map column_of l.columns) l.places.items (drop l.name-index l.names) ≡ classes.named_places (map column_of l.columns) [] l.names
