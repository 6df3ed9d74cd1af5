-- Values where they lie.
use Rattle.row_values.specs.Value.{Value, null, number, text, binary}
use Rattle.key_map.specs.declared.field.Field.{Field}
use Rattle.key_map.specs.declared.field.Field.TheVariants.{Null, Number, Text, Bytes}

abbrev pub value_in : Field → Value
value_in Null = null
value_in (Number n) = number n
value_in (Text bytes) = text bytes.now
value_in (Bytes bytes) = binary bytes.now
