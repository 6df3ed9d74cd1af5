-- Keys: the values of the key columns in the order of PRIMARY KEY, written as in rows, and their
-- order, which is that of their values.
use Rattle.std.specs.Prelude.{ℕ, Bool, List, [], is_some, unwrap_or}
use Rattle.std.specs.Ordering.{nat_cmp, ordering_then}
use Rattle.std.specs.declared.cmp.Ordering.{Ordering}
use Rattle.std.specs.Cmp.Lexicographic.{slice_cmp}
use Rattle.row_values.specs.Value.{Value, value_cmp}
use Rattle.row_values.specs.Schema.{Schema, key_columns, picked}
use Rattle.row_values.specs.Row.{row_bytes, values_at, values_in}

abbrev pub is_key : Schema → List ℕ → Bool
is_key schema key = is_some (values_at (key_columns schema) key)

-- the values of bytes that are a key
abbrev pub key_values : Schema → List ℕ → List Value
key_values schema key = unwrap_or (values_at (key_columns schema) key) []

-- the key of a row
abbrev pub row_key : Schema → List ℕ → List ℕ
row_key schema row = row_bytes (key_columns schema) (picked (values_in schema row) schema.key)

-- the order of keys: by their values, the first key column first. Of bytes that are no keys, and so
-- have no values, their own order decides.
abbrev pub key_cmp : Schema → List ℕ → List ℕ → Ordering
key_cmp schema a b = ordering_then (slice_cmp value_cmp (key_values schema a) (key_values schema b)) (slice_cmp nat_cmp a b)
