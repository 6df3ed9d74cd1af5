use Rattle.std.proofs.Common.{◌≡◌, ◌++◌, length, map}
use Rattle.std.specs.List.{filter_map}
use Rattle.row_values.specs.Column.{column_of}
use Rattle.sql_semantics.specs.Values.{column_place}
use Rattle.sql_changes.proofs.creation.key_places.Given as goal

abbrev pub invariant-key : goal.invariant-key
invariant-key l = l.places.items ++ filter_map (λ k. column_place (map column_of l.columns) k.name) l.left ≡ filter_map (λ k. column_place (map column_of l.columns) k.name) l.key

abbrev pub decreases-key : goal.decreases-key
decreases-key l = length l.left
