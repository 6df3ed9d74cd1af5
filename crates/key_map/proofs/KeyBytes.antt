-- The key of a row of bytes is made of bytes.
use Rattle.std.proofs.Common.{◌≡◌, ◌++◌, ◌<◌, ℕ, zero, suc, List, [], ◌∷◌, true, refl, sym, subst, ◌∙◌, length, Option, Some, None, arith}
use Rattle.std.specs.List.{cons_option, slice_get, slice_index}
use Rattle.drda_words.specs.Bytes.{AreBytes}
use Rattle.row_values.specs.Column.{Column}
use Rattle.row_values.specs.Value.{Value}
use Rattle.row_values.specs.Schema.{Schema, picked}
use Rattle.row_values.specs.Row.{is_row, row_bytes, value_bytes, values_in}
use Rattle.row_values.specs.Key.{row_key}
use Rattle.row_values.specs.Laws.{RowsHaveTheirValues}
use Rattle.row_values.proofs.RowColumns.{row_written}

both_bytes : (xs ys : List ℕ) → AreBytes xs → AreBytes ys → (i : ℕ) → slice_index (xs ++ ys) i < 256
both_bytes [] ys a b i = b i
both_bytes (x ∷ xs) ys a b zero = a zero
both_bytes (x ∷ xs) ys a b (suc i) = both_bytes xs ys (λ j. a (suc j)) b i

front_bytes : (xs ys : List ℕ) → AreBytes (xs ++ ys) → (i : ℕ) → slice_index xs i < 256
front_bytes [] ys a i = none i
  where
    none : (i : ℕ) → slice_index [] i < 256
    none i = omega arith
front_bytes (x ∷ xs) ys a zero = a zero
front_bytes (x ∷ xs) ys a (suc i) = front_bytes xs ys (λ j. a (suc j)) i

rest_bytes : (xs ys : List ℕ) → AreBytes (xs ++ ys) → AreBytes ys
rest_bytes [] ys a = a
rest_bytes (x ∷ xs) ys a = rest_bytes xs ys (λ j. a (suc j))

-- a value and its column, at one place of a row, or none there
value_there : (columns : List Column) (values : List Value) (i : ℕ) (c : Column) (v : Value) → AreBytes (row_bytes columns values) → slice_get columns i ≡ Some c → slice_get values i ≡ Some v → AreBytes (value_bytes c.kind v)
value_there [] values i c v all at here = absurd cc
value_there (column ∷ columns) [] i c v all at here = absurd cc
value_there (column ∷ columns) (value ∷ values) zero c v all at here =
    let one : column ≡ c = cc in
    let two : value ≡ v = cc in
    subst (λ (k : Column). AreBytes (value_bytes k.kind v)) one (subst (λ (w : Value). AreBytes (value_bytes column.kind w)) two (front_bytes (value_bytes column.kind value) (row_bytes columns values) all))
value_there (column ∷ columns) (value ∷ values) (suc i) c v all at here = value_there columns values i c v (rest_bytes (value_bytes column.kind value) (row_bytes columns values) all) at here

none_too : (columns : List Column) (values : List Value) (i : ℕ) → length values ≡ length columns → slice_get columns i ≡ None → slice_get values i ≡ None
none_too [] [] i same h = refl
none_too [] (value ∷ values) i same h = absurd (omega (arith, same))
none_too (column ∷ columns) [] i same h = refl
none_too (column ∷ columns) (value ∷ values) zero same h = absurd cc
none_too (column ∷ columns) (value ∷ values) (suc i) same h = none_too columns values i (omega (arith, same)) h

some_too : (columns : List Column) (values : List Value) (i : ℕ) (c : Column) → length values ≡ length columns → slice_get columns i ≡ Some c → slice_get values i ≡ None → ⊥
some_too [] values i c same at h = cc
some_too (column ∷ columns) [] i c same at h = omega (arith, same)
some_too (column ∷ columns) (value ∷ values) zero c same at h = cc
some_too (column ∷ columns) (value ∷ values) (suc i) c same at h = some_too columns values i c (omega (arith, same)) at h

module _ (columns : List Column) (values : List Value) (same : length values ≡ length columns) (all : AreBytes (row_bytes columns values)) where
  picked_step : (place : ℕ) (o : Option Column) (p : Option Value) (cs : List Column) (vs : List Value) → slice_get columns place ≡ o → slice_get values place ≡ p → AreBytes (row_bytes cs vs) → AreBytes (row_bytes (cons_option o cs) (cons_option p vs))
  picked_step place None None cs vs at here more = more
  picked_step place None (Some v) cs vs at here more = let none : Some v ≡ None = sym here ∙ none_too columns values place same at in absurd cc
  picked_step place (Some c) None cs vs at here more = absurd (some_too columns values place c same at here)
  picked_step place (Some c) (Some v) cs vs at here more = both_bytes (value_bytes c.kind v) (row_bytes cs vs) (value_there columns values place c v all at here) more

  picked_bytes : (places : List ℕ) → AreBytes (row_bytes (picked columns places) (picked values places))
  picked_bytes [] = λ i. front_bytes [] [] (λ j. none j) i
    where
      none : (j : ℕ) → slice_index [] j < 256
      none j = omega arith
  picked_bytes (place ∷ places) = picked_step place (slice_get columns place) (slice_get values place) (picked columns places) (picked values places) refl refl (picked_bytes places)

pub key_bytes : RowsHaveTheirValues → (schema : Schema) (row : List ℕ) → AreBytes row → is_row schema row ≡ true → AreBytes (row_key schema row)
key_bytes values schema row all good =
    picked_bytes schema.columns (values_in schema row) (values schema row good) (subst AreBytes (row_written schema row all good).1 all) schema.key
