use Rattle.std.proofs.Common.{◌≡◌, map, drop}
use Rattle.row_values.specs.Column.{column_of}
use Rattle.row_values.specs.Value.{value_of}
use Rattle.sql_semantics.specs.Scope as scope
use Rattle.sql_predicates.proofs.key.fixed.Given as goal

abbrev pub invariant-loop-part : goal.invariant-loop-part
invariant-loop-part l = scope.fixed (map value_of l.params) (map column_of l.columns) l.place (drop l.part-index l.parts) ≡ scope.fixed (map value_of l.params) (map column_of l.columns) l.place l.parts
