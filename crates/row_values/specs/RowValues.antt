-- The values of a row that are still to come.
use Rattle.std.specs.Prelude.{List, map}
use Rattle.row_values.specs.declared.row_values.RowValues.{RowValues}
use Rattle.row_values.specs.Value.{Value}
use Rattle.row_values.specs.Column.{column_of}
use Rattle.row_values.specs.Row.{values_or_none}

abbrev pub values_left : RowValues → List Value
values_left v = values_or_none (map column_of v.columns.now) v.rest.now
