use Rattle.std.proofs.Common.{◌≡◌, ◌++◌, map}
use Rattle.row_values.specs.Row.{values_in}
use Rattle.row_values.specs.RowValues.{values_left}
use Rattle.row_values.specs.RowView.{row_in, schema_in}
use Rattle.row_values.specs.Value.{value_of}
use Rattle.sql_changes.proofs.updated_row.row_values.Given as goal

abbrev pub invariant-values : goal.invariant-values
invariant-values l = map value_of l.values.items ++ values_left l.left ≡ values_in (schema_in l.fn.row) (row_in l.fn.row)
