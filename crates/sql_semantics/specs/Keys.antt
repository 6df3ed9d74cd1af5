-- Keys of values.
use Rattle.std.specs.Prelude.{ℕ, List, Option, Some, None, if◌then◌else◌}
use Rattle.row_values.specs.Value.{Value}
use Rattle.row_values.specs.Schema.{Schema, key_columns}
use Rattle.row_values.specs.Row.{all_fit, row_bytes}

-- the bytes of a key of these values, one per key column
abbrev pub values_key : Schema → List Value → List ℕ
values_key schema values = row_bytes (key_columns schema) values

-- the key of these values, where each fits its column
unfoldable pub key_of_values : Schema → List Value → Option (List ℕ)
key_of_values schema values = if all_fit (key_columns schema) values then Some (values_key schema values) else None
