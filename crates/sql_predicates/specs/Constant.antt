-- Values of statements.
use Rattle.std.specs.String.{string_bytes}
use Rattle.row_values.specs.Value.{Value, null, number, text, binary}
use Rattle.sql_predicates.specs.declared.constant.Constant.{Constant as CodeConstant}
use Rattle.sql_predicates.specs.declared.constant.Constant.TheVariants.{Null, Number, Text, Bytes}

abbrev pub constant_value : CodeConstant → Value
constant_value Null = null
constant_value (Number n) = number n
constant_value (Text s) = text (string_bytes s)
constant_value (Bytes v) = binary v.items
