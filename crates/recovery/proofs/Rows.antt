-- Bytes that are rows of a schema, and their keys.
use Rattle.std.proofs.Common.{◌≡◌, ◌≤◌, ℕ, List, [], ◌∷◌, true, refl, sym, ap, ◌∙◌, length, Some, arith}
use Rattle.std.specs.Prelude.{nat_le}
use Rattle.std.proofs.lemmas.Bool.Decides.{nat_tests}
use Rattle.row_values.specs.Value.{Value}
use Rattle.row_values.specs.Column.{Column, fits}
use Rattle.row_values.specs.Schema.{Schema, is_schema, picked}
use Rattle.row_values.specs.Row.{all_fit, is_row, row_bytes, typed_value_at, value_at, values_at, values_in}
use Rattle.row_values.specs.Key.{is_key, row_key}
use Rattle.row_values.proofs.ValueLaws.{both_true, chained, kept, mapped, values_at-row_bytes}
use Rattle.row_values.proofs.Keys.{counted_columns, key_short, schema_columns}
use Rattle.row_values.proofs.RowColumns.{row_is, row_values_at}
use Rattle.row_values.proofs.RowKeys.{key_fits, row_key_good}

-- the bytes of values that fit are a row
pub row_good : (schema : Schema) (values : List Value) → is_schema schema ≡ true → all_fit schema.columns values ≡ true → nat_le (length (row_bytes schema.columns values)) 4000 ≡ true → is_row schema (row_bytes schema.columns values) ≡ true
row_good schema values good fit short =
    let back : values_at schema.columns (row_bytes schema.columns values) ≡ Some values = values_at-row_bytes schema.columns values (counted_columns schema.columns (schema_columns schema good)) fit in
    rw (short, back) refl

pub row_length : (schema : Schema) (row : List ℕ) → is_row schema row ≡ true → nat_le (length row) 4000 ≡ true
row_length schema row is = (row_is schema row is).0

-- ---- what is read fits

value_fits : (column : Column) (bytes : List ℕ) (x : Value × List ℕ) → value_at column bytes ≡ Some x → fits column x.0 ≡ true
unfolding value_at
value_fits column bytes x h =
    let r = chained _ (typed_value_at column.kind bytes) x h in
    let k = kept (fits column r.0.0) r.0 x r.2 in
    ap (λ (y : Value × List ℕ). fits column y.0) (sym k.1) ∙ k.0

no_values : (values : List Value) → Some [] ≡ Some values → all_fit [] values ≡ true
no_values [] h = refl
no_values (v ∷ vs) h = absurd cc

values_fit : (columns : List Column) (bytes : List ℕ) (values : List Value) → values_at columns bytes ≡ Some values → all_fit columns values ≡ true
values_fit [] [] values h = no_values values h
values_fit [] (byte ∷ bytes) values h = absurd cc
values_fit (column ∷ columns) bytes values h =
    let x = chained _ (value_at column bytes) values h in
    let more = mapped (λ (vs : List Value). x.0.0 ∷ vs) (values_at columns x.0.1) values x.2 in
    ap (all_fit (column ∷ columns)) (sym more.2) ∙ both_true (fits column x.0.0) (all_fit columns more.0) (value_fits column bytes x.0 x.1) (values_fit columns x.0.1 more.0 more.1)

row_fits : (schema : Schema) (row : List ℕ) → is_row schema row ≡ true → all_fit schema.columns (values_in schema row) ≡ true
row_fits schema row is = values_fit schema.columns row (values_in schema row) (row_values_at schema row is)

-- ---- keys

-- whatever the numbers of the row's bytes: a store doesn't tell that they are bytes
pub key_of_row : (schema : Schema) (row : List ℕ) → is_schema schema ≡ true → is_row schema row ≡ true → is_key schema (row_key schema row) ≡ true
key_of_row schema row good is = row_key_good schema row good (row_fits schema row is)

few : (n : ℕ) → n ≤ 8012 → nat_le n 8012 ≡ true
few n le = grind (arith, nat_tests)

pub key_length : (schema : Schema) (row : List ℕ) → is_schema schema ≡ true → is_row schema row ≡ true → nat_le (length (row_key schema row)) 8012 ≡ true
key_length schema row good is =
    few (length (row_key schema row)) (key_short schema (picked (values_in schema row) schema.key) good (key_fits schema (values_in schema row) good (row_fits schema row is)))
