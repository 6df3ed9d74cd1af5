-- The bytes are values of the columns exactly where the rest are values of the columns to come.
use Rattle.std.proofs.Common.{◌≡◌, map, drop}
use Rattle.std.specs.Prelude.{is_some}
use Rattle.row_values.specs.Column.{column_of}
use Rattle.row_values.specs.Row.{values_at}
use Rattle.row_values.proofs.encoding.has_values.Given as goal

abbrev pub invariant-loop-column : goal.invariant-loop-column
invariant-loop-column l = is_some (values_at (drop l.column-index (map column_of l.columns)) l.rest) ≡ is_some (values_at (map column_of l.columns) l.bytes)
