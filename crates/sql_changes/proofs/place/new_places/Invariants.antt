use Rattle.std.proofs.Common.{◌≡◌, [], length, map}
use Rattle.row_values.specs.Column.{column_of}
use Rattle.sql_semantics.specs.Insert.{new_places}
use Rattle.sql_changes.proofs.place.new_places.Given as goal

abbrev pub invariant-names : goal.invariant-names
invariant-names l = new_places (map column_of l.columns) l.places.items l.left ≡ new_places (map column_of l.columns) [] l.names

abbrev pub decreases-names : goal.decreases-names
decreases-names l = length l.left
