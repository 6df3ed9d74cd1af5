-- What is read of a row is what the row has.
use Rattle.std.proofs.Common.{◌≡◌, ℕ, List, [], ◌∷◌, Bool, true, false, Option, Some, None, ◌==◌, refl, sym, ap, ◌∙◌, if◌then◌else◌, option_map}
use Rattle.std.specs.Prelude.{unwrap_or}
use Rattle.std.specs.Option.{option_and_then}
use Rattle.std.specs.Str.{is_utf8}
use Rattle.row_values.specs.declared.column.Kind.{Kind}
use Rattle.row_values.specs.declared.column.Kind.TheVariants.{SmallInt, Integer, BigInt, VarChar, VarBinary}
use Rattle.row_values.specs.Value.{Value, null, text}
use Rattle.row_values.specs.Column.{Column, fits}
use Rattle.row_values.specs.Schema.{picked}
use Rattle.row_values.specs.Row.{all_fit, content_at, counted_at, typed_value_at, utf8_in, value_at, values_at, values_in}
use Rattle.row_values.specs.Key.{key_values, row_key}
use Rattle.row_values.proofs.Keys.{key_good}
use Rattle.row_values.proofs.RowColumns.{row_values_at}
use Rattle.row_values.proofs.RowKeys.{key_fits}
use Rattle.row_values.proofs.ValueLaws.{both_true}
use Rattle.key_map.specs.SortForm.{values_form}
use Rattle.key_map.specs.RowForm.{RowsHaveTheirForms, content_read, value_read, values_read, with_value}

-- ---- one value

of_text : (o : Option (List ℕ × List ℕ)) (x : Value × List ℕ) → option_and_then (λ (p : List ℕ × List ℕ). option_map (λ (content : List ℕ). (text content, p.1)) (utf8_in p.0)) o ≡ Some x → option_map (λ (p : List ℕ × List ℕ). (text p.0, p.1)) o ≡ Some x
of_text None x is = absurd cc
of_text (Some p) x is = by (is_utf8 p.0) is
  where
    by : (b : Bool) → option_map (λ (content : List ℕ). (text content, p.1)) (if b then Some p.0 else None) ≡ Some x → Some (text p.0, p.1) ≡ Some x
    by true is = is
    by false is = absurd cc

content_too : (kind : Kind) (bytes : List ℕ) (x : Value × List ℕ) → content_at kind bytes ≡ Some x → content_read kind bytes ≡ Some x
content_too SmallInt bytes x is = is
content_too Integer bytes x is = is
content_too BigInt bytes x is = is
content_too VarChar bytes x is = of_text (counted_at bytes) x is
content_too VarBinary bytes x is = is

typed_too : (kind : Kind) (bytes : List ℕ) (x : Value × List ℕ) → typed_value_at kind bytes ≡ Some x → value_read kind bytes ≡ Some x
typed_too kind [] x is = absurd cc
typed_too kind (mark ∷ bytes) x is = by (mark == 255) (mark == 0) is
  where
    by : (a b : Bool) → (if a then Some (null, bytes) else (if b then content_at kind bytes else None)) ≡ Some x → (if a then Some (null, bytes) else (if b then content_read kind bytes else None)) ≡ Some x
    by true b is = is
    by false true is = content_too kind bytes x is
    by false false is = absurd cc

value_too : (column : Column) (bytes : List ℕ) (x : Value × List ℕ) → value_at column bytes ≡ Some x → value_read column.kind bytes ≡ Some x
unfolding value_at
value_too column bytes x is = by (typed_value_at column.kind bytes) refl is
  where
    fit : (y : Value × List ℕ) (b : Bool) → (if b then Some y else None) ≡ Some x → Some y ≡ Some x
    fit y true is = is
    fit y false is = absurd cc

    by : (o : Option (Value × List ℕ)) → typed_value_at column.kind bytes ≡ o → option_and_then (λ (y : Value × List ℕ). if fits column y.0 then Some y else None) o ≡ Some x → value_read column.kind bytes ≡ Some x
    by None at is = absurd cc
    by (Some y) at is = typed_too column.kind bytes y at ∙ fit y (fits column y.0) is

-- ---- all of them

read_more : (x : Value × List ℕ) (columns : List Column) (values : List Value) (o : Option (List Value)) → ((vs : List Value) → o ≡ Some vs → values_read columns x.1 ≡ vs) → option_map (λ (vs : List Value). x.0 ∷ vs) o ≡ Some values → x.0 ∷ values_read columns x.1 ≡ values
read_more x columns values None so is = absurd cc
read_more x columns values (Some vs) so is = let same : x.0 ∷ vs ≡ values = cc in ap (λ (l : List Value). x.0 ∷ l) (so vs refl) ∙ same

read_next : (column : Column) (columns : List Column) (bytes : List ℕ) (values : List Value) (o : Option (Value × List ℕ)) → ((rest : List ℕ) (vs : List Value) → values_at columns rest ≡ Some vs → values_read columns rest ≡ vs) → value_at column bytes ≡ o
    → option_and_then (λ (x : Value × List ℕ). option_map (λ (vs : List Value). x.0 ∷ vs) (values_at columns x.1)) o ≡ Some values → values_read (column ∷ columns) bytes ≡ values
read_next column columns bytes values None so at is = absurd cc
read_next column columns bytes values (Some x) so at is = ap (λ o. with_value o (values_read columns)) (value_too column bytes x at) ∙ read_more x columns values (values_at columns x.1) (so x.1) is

read_too : (columns : List Column) (bytes : List ℕ) (values : List Value) → values_at columns bytes ≡ Some values → values_read columns bytes ≡ values
read_too [] [] values is = cc
read_too [] (byte ∷ bytes) values is = absurd cc
read_too (column ∷ columns) bytes values is = read_next column columns bytes values (value_at column bytes) (read_too columns) refl is

-- ---- values that are read fit

value_fits : (column : Column) (bytes : List ℕ) (x : Value × List ℕ) → value_at column bytes ≡ Some x → fits column x.0 ≡ true
unfolding value_at
value_fits column bytes x is = by (typed_value_at column.kind bytes) is
  where
    fit : (y : Value × List ℕ) (b : Bool) → fits column y.0 ≡ b → (if b then Some y else None) ≡ Some x → fits column x.0 ≡ true
    fit y true at is = let same : y ≡ x = cc in ap (λ (z : Value × List ℕ). fits column z.0) (sym same) ∙ at
    fit y false at is = absurd cc

    by : (o : Option (Value × List ℕ)) → option_and_then (λ (y : Value × List ℕ). if fits column y.0 then Some y else None) o ≡ Some x → fits column x.0 ≡ true
    by None is = absurd cc
    by (Some y) is = fit y (fits column y.0) refl is

fit_more : (column : Column) (columns : List Column) (x : Value × List ℕ) (values : List Value) (o : Option (List Value)) → ((vs : List Value) → o ≡ Some vs → all_fit columns vs ≡ true) → fits column x.0 ≡ true
    → option_map (λ (vs : List Value). x.0 ∷ vs) o ≡ Some values → all_fit (column ∷ columns) values ≡ true
fit_more column columns x values None so fit is = absurd cc
fit_more column columns x values (Some vs) so fit is =
    let same : x.0 ∷ vs ≡ values = cc in
    ap (all_fit (column ∷ columns)) (sym same) ∙ both_true (fits column x.0) (all_fit columns vs) fit (so vs refl)

fit_next : (column : Column) (columns : List Column) (bytes : List ℕ) (values : List Value) (o : Option (Value × List ℕ)) → ((rest : List ℕ) (vs : List Value) → values_at columns rest ≡ Some vs → all_fit columns vs ≡ true) → value_at column bytes ≡ o
    → option_and_then (λ (x : Value × List ℕ). option_map (λ (vs : List Value). x.0 ∷ vs) (values_at columns x.1)) o ≡ Some values → all_fit (column ∷ columns) values ≡ true
fit_next column columns bytes values None so at is = absurd cc
fit_next column columns bytes values (Some x) so at is = fit_more column columns x values (values_at columns x.1) (so x.1) (value_fits column bytes x at) is

all_read_fit : (columns : List Column) (bytes : List ℕ) (values : List Value) → values_at columns bytes ≡ Some values → all_fit columns values ≡ true
all_read_fit [] [] [] is = refl
all_read_fit [] [] (value ∷ values) is = absurd cc
all_read_fit [] (byte ∷ bytes) values is = absurd cc
all_read_fit (column ∷ columns) bytes values is = fit_next column columns bytes values (value_at column bytes) (all_read_fit columns) refl is

-- ---- a row

pub rows_have_their_forms : RowsHaveTheirForms
rows_have_their_forms schema row good is =
    let values = values_in schema row in
    let there = row_values_at schema row is in
    let fit = all_read_fit schema.columns row values there in
    let key : key_values schema (row_key schema row) ≡ picked values schema.key = ap (λ (o : Option (List Value)). unwrap_or o []) (key_good schema (picked values schema.key) good (key_fits schema values good fit)) in
    ap (λ (vs : List Value). values_form (picked vs schema.key)) (read_too schema.columns row values there) ∙ ap values_form (sym key)
