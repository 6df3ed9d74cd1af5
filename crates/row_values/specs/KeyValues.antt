-- The values of a key that are still to come.
use Rattle.std.specs.Prelude.{List, drop}
use Rattle.row_values.specs.declared.key_values.KeyValues.{KeyValues}
use Rattle.row_values.specs.Value.{Value}
use Rattle.row_values.specs.Schema.{key_columns}
use Rattle.row_values.specs.Row.{values_or_none}

abbrev pub values_left : KeyValues → List Value
values_left v = values_or_none (drop v.place (key_columns v.schema.now)) v.rest.now
