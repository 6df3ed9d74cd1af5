-- The sort form of a row's key, read from the row's bytes where they lie.
use Rattle.std.specs.Prelude.{◌≡◌, ℕ, true, List, [], ◌∷◌, Option, Some, None, ◌==◌, if◌then◌else◌, option_map}
use Rattle.std.specs.Int.{w16, w32, w64}
use Rattle.row_values.specs.declared.column.Kind.{Kind}
use Rattle.row_values.specs.declared.column.Kind.TheVariants.{SmallInt, Integer, BigInt, VarChar, VarBinary}
use Rattle.row_values.specs.Value.{Value, null, text, binary}
use Rattle.row_values.specs.Column.{Column}
use Rattle.row_values.specs.Schema.{Schema, is_schema, picked}
use Rattle.row_values.specs.Row.{counted_at, is_row, number_at}
use Rattle.row_values.specs.Key.{row_key}
use Rattle.key_map.specs.SortForm.{sort_form, values_form}

-- a value of a type in front of bytes, with what follows it; whether it fits its column is not asked, nor whether a text
-- is UTF-8
abbrev pub content_read : Kind → List ℕ → Option (Value × List ℕ)
content_read SmallInt bytes = number_at 2 w16 bytes
content_read Integer bytes = number_at 4 w32 bytes
content_read BigInt bytes = number_at 8 w64 bytes
content_read VarChar bytes = option_map (λ (x : List ℕ × List ℕ). (text x.0, x.1)) (counted_at bytes)
content_read VarBinary bytes = option_map (λ (x : List ℕ × List ℕ). (binary x.0, x.1)) (counted_at bytes)

abbrev pub value_read : Kind → List ℕ → Option (Value × List ℕ)
value_read kind [] = None
value_read kind (mark ∷ bytes) = if mark == 255 then Some (null, bytes) else (if mark == 0 then content_read kind bytes else None)

-- the values of the columns in front of bytes, as many as stand there
abbrev pub with_value : Option (Value × List ℕ) → (List ℕ → List Value) → List Value
with_value None more = []
with_value (Some x) more = x.0 ∷ more x.1

abbrev pub values_read : List Column → List ℕ → List Value
values_read [] bytes = []
values_read (column ∷ columns) bytes = with_value (value_read column.kind bytes) (values_read columns)

-- the sort form of the values at the places of the key. Of bytes that are no row it is that of what can be read of them.
abbrev pub row_form : Schema → List ℕ → List ℕ
row_form schema row = values_form (picked (values_read schema.columns row) schema.key)

-- ---- laws

-- the form of a row is the sort form of its key
abbrev pub RowsHaveTheirForms : Type 0
RowsHaveTheirForms = (schema : Schema) (row : List ℕ) → is_schema schema ≡ true → is_row schema row ≡ true → row_form schema row ≡ sort_form schema (row_key schema row)
