-- The row that an INSERT gives.
use Rattle.std.specs.Prelude.{List, map}
use Rattle.row_values.specs.Value.{Value}
use Rattle.sql_predicates.specs.Constant.{constant_value}
use Rattle.sql_changes.specs.declared.given.GivenRow.{GivenRow}

-- its values, one for each column
abbrev pub values_given : GivenRow → List Value
values_given row = map constant_value row.values.items
