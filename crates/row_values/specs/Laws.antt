-- The laws that tie the definitions to one another.
use Rattle.std.specs.Prelude.{◌≡◌, ◌≤◌, ℕ, List, ◌++◌, length, Some, true}
use Rattle.std.proofs.Common.{Equal}
use Rattle.std.specs.List.{list_all}
use Rattle.std.specs.Cmp.{IsTotalOrder}
use Rattle.std.specs.Cmp.Lexicographic.{slice_cmp}
use Rattle.drda_words.specs.Bytes.{AreBytes}
use Rattle.row_values.specs.Value.{Value, value_cmp}
use Rattle.row_values.specs.Column.{Column}
use Rattle.row_values.specs.Schema.{Schema, is_column, is_schema}
use Rattle.row_values.specs.Row.{all_fit, is_row, row_bytes, values_at, values_in}
use Rattle.row_values.specs.Key.{is_key, key_cmp, key_values, row_key}
use Rattle.row_values.specs.Bytes.{schema_at, schema_bytes}

-- values that fit are read back from their bytes
abbrev pub WrittenIsRead : Type 0
WrittenIsRead = (columns : List Column) (values : List Value) → list_all is_column columns ≡ true → all_fit columns values ≡ true → values_at columns (row_bytes columns values) ≡ Some values

-- bytes that are read as values are those of the values, which fit
abbrev pub ReadWasWritten : Type 0
ReadWasWritten = (columns : List Column) (bytes : List ℕ) (values : List Value) → AreBytes bytes → values_at columns bytes ≡ Some values → (all_fit columns values ≡ true) × (bytes ≡ row_bytes columns values)

-- values are in a total order, in which only equal ones tie
abbrev pub ValuesAreOrdered : Type 0
ValuesAreOrdered = IsTotalOrder value_cmp × ((a b : Value) → value_cmp a b ≡ Equal → a ≡ b)

-- a row has as many values as its schema has columns
abbrev pub RowsHaveTheirValues : Type 0
RowsHaveTheirValues = (schema : Schema) (row : List ℕ) → is_row schema row ≡ true → length (values_in schema row) ≡ length schema.columns

-- a key has at most 8,012 bytes
abbrev pub KeysAreShort : Type 0
KeysAreShort = (schema : Schema) (key : List ℕ) → is_schema schema ≡ true → AreBytes key → is_key schema key ≡ true → length key ≤ 8012

-- the key of a row is one
abbrev pub RowsHaveKeys : Type 0
RowsHaveKeys = (schema : Schema) (row : List ℕ) → is_schema schema ≡ true → AreBytes row → is_row schema row ≡ true → is_key schema (row_key schema row) ≡ true

-- keys are in a total order, in which only equal ones tie
abbrev pub KeysAreOrdered : Type 0
KeysAreOrdered = (schema : Schema) → IsTotalOrder (key_cmp schema) × ((a b : List ℕ) → key_cmp schema a b ≡ Equal → a ≡ b)

-- which is the order of their values
abbrev pub KeysGoByValues : Type 0
KeysGoByValues = (schema : Schema) (a b : List ℕ) → AreBytes a → AreBytes b → is_key schema a ≡ true → is_key schema b ≡ true → key_cmp schema a b ≡ slice_cmp value_cmp (key_values schema a) (key_values schema b)

-- schemas are read back from their bytes, whatever follows
abbrev pub SchemaWrittenIsRead : Type 0
SchemaWrittenIsRead = (schema : Schema) (rest : List ℕ) → is_schema schema ≡ true → schema_at (schema_bytes schema ++ rest) ≡ Some (schema, rest)

-- bytes in which a schema is read begin with its bytes
abbrev pub SchemaReadWasWritten : Type 0
SchemaReadWasWritten = (bytes : List ℕ) (x : Schema × List ℕ) → AreBytes bytes → schema_at bytes ≡ Some x → (is_schema x.0 ≡ true) × (bytes ≡ schema_bytes x.0 ++ x.1)
