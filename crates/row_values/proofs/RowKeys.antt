-- The key of a row.
use Rattle.std.proofs.Common.{◌≡◌, ℕ, ◌<◌, ◌≤◌, List, [], ◌∷◌, true, refl, sym, ap, ◌∙◌, length, drop, get_or, Option, Some, None, arith}
use Rattle.std.specs.Prelude.{is_some}
use Rattle.std.specs.List.{list_all, slice_get}
use Rattle.std.proofs.lemmas.Option.{slice_get-get_or}
use Rattle.std.proofs.Common.{map, take}
use Rattle.std.proofs.lemmas.List.{length-map, take_all}
use Rattle.row_values.specs.declared.value.Value.{Value as CodeValue}
use Rattle.row_values.specs.Value.{Value, null, value_of}
use Rattle.row_values.specs.Column.{Column}
use Rattle.row_values.specs.Schema.{Schema, is_schema, key_columns, picked}
use Rattle.row_values.specs.Row.{all_fit, row_bytes, values_in}
use Rattle.row_values.specs.Key.{is_key, row_key}
use Rattle.row_values.proofs.ValueLaws.{both_true, first_true, second_true}
use Rattle.row_values.proofs.Keys.{are_places, key_count, key_good, key_places, length-picked, picked_at, within_some}
use Rattle.row_values.proofs.RowSteps.{all_fit-length, fits_at, row_end}

there_by_length : {A B : Type 0} (xs : List A) (ys : List B) (p : ℕ) → length xs ≡ length ys → is_some (slice_get xs p) ≡ true → (d : B) → is_some (slice_get ys p) ≡ true
there_by_length xs ys p same h d = let lt = within_some xs p (slice_get xs p) refl h in let lt' : p < length ys = omega arith in ap is_some (slice_get-get_or ys p d lt')

-- the places of a list are those of any list of its length
pub places_by_length : {A B : Type 0} (xs : List A) (ys : List B) (places : List ℕ) (d : B) → length xs ≡ length ys → are_places xs places ≡ true → are_places ys places ≡ true
places_by_length xs ys [] d same all = refl
places_by_length xs ys (p ∷ ps) d same all =
    both_true (is_some (slice_get ys p)) (list_all (λ place. is_some (slice_get ys place)) ps)
    (there_by_length xs ys p same (first_true (is_some (slice_get xs p)) (list_all (λ place. is_some (slice_get xs place)) ps) all) d)
    (places_by_length xs ys ps d same (second_true (is_some (slice_get xs p)) (list_all (λ place. is_some (slice_get xs place)) ps) all))

-- the key's values are at the places of the key
pub key_places_values : (schema : Schema) (values : List Value) → is_schema schema ≡ true → all_fit schema.columns values ≡ true → are_places values schema.key ≡ true
key_places_values schema values good fit = places_by_length schema.columns values schema.key null (all_fit-length schema.columns values fit) (key_places schema good)

picked_fit_by : (columns : List Column) (values : List Value) (p : ℕ) (ps : List ℕ) (c : Option Column) (v : Option Value) → all_fit columns values ≡ true → slice_get columns p ≡ c → slice_get values p ≡ v → is_some c ≡ true → is_some v ≡ true
    → all_fit (picked columns ps) (picked values ps) ≡ true → all_fit (picked columns (p ∷ ps)) (picked values (p ∷ ps)) ≡ true
picked_fit_by columns values p ps (Some c) (Some v) fit at_c at_v some_c some_v rest =
    let one = fits_at columns values p c v fit at_c at_v in
    rw (at_c, at_v, one, rest) refl
picked_fit_by columns values p ps None v fit at_c at_v some_c some_v rest = absurd cc
picked_fit_by columns values p ps (Some c) None fit at_c at_v some_c some_v rest = absurd cc

-- the values that are picked fit the columns that are picked
pub picked_fit : (columns : List Column) (values : List Value) (places : List ℕ) → all_fit columns values ≡ true → are_places columns places ≡ true → are_places values places ≡ true → all_fit (picked columns places) (picked values places) ≡ true
picked_fit columns values [] fit all_c all_v = refl
picked_fit columns values (p ∷ ps) fit all_c all_v =
    picked_fit_by columns values p ps (slice_get columns p) (slice_get values p) fit refl refl
    (first_true (is_some (slice_get columns p)) (list_all (λ place. is_some (slice_get columns place)) ps) all_c)
    (first_true (is_some (slice_get values p)) (list_all (λ place. is_some (slice_get values place)) ps) all_v)
    (picked_fit columns values ps fit
    (second_true (is_some (slice_get columns p)) (list_all (λ place. is_some (slice_get columns place)) ps) all_c)
    (second_true (is_some (slice_get values p)) (list_all (λ place. is_some (slice_get values place)) ps) all_v))

pub key_fits : (schema : Schema) (values : List Value) → is_schema schema ≡ true → all_fit schema.columns values ≡ true → all_fit (key_columns schema) (picked values schema.key) ≡ true
key_fits schema values good fit = picked_fit schema.columns values schema.key fit (key_places schema good) (key_places_values schema values good fit)

-- the key of a row is a key
pub row_key_good : (schema : Schema) (row : List ℕ) → is_schema schema ≡ true → all_fit schema.columns (values_in schema row) ≡ true → is_key schema (row_key schema row) ≡ true
row_key_good schema row good fit = ap is_some (key_good schema (picked (values_in schema row) schema.key) good (key_fits schema (values_in schema row) good fit))

-- ---- the key, place by place

pub key_place : (schema : Schema) (key : List ℕ) (i place : ℕ) → key ≡ schema.key → i < length key → place ≡ get_or key i 0 → slice_get schema.key i ≡ Some place
key_place schema key i place is lt at = ap (λ (k : List ℕ). slice_get k i) (sym is) ∙ slice_get-get_or key i 0 lt ∙ ap Some (sym at)

-- the column at a place of the key
pub key_column_at : (schema : Schema) (i place : ℕ) (column : Column) → is_schema schema ≡ true → slice_get schema.key i ≡ Some place → slice_get (key_columns schema) i ≡ Some column → slice_get schema.columns place ≡ Some column
key_column_at schema i place column good at is = sym (picked_at schema.columns schema.key i place (key_places schema good) at) ∙ is

-- the value at a place of the key
pub key_value_at : (schema : Schema) (values : List Value) (i place : ℕ) (value : Value) → is_schema schema ≡ true → all_fit schema.columns values ≡ true → slice_get schema.key i ≡ Some place → slice_get values place ≡ Some value → slice_get (picked values schema.key) i ≡ Some value
key_value_at schema values i place value good fit at is = picked_at values schema.key i place (key_places_values schema values good fit) at ∙ is

-- ---- values of a key

-- a place of the key is one of a value
pub key_in_values : (schema : Schema) (values : List CodeValue) (key : List ℕ) (i : ℕ) → is_schema schema ≡ true → key ≡ schema.key → all_fit (key_columns schema) (map value_of values) ≡ true → i < length key → i < length values
key_in_values schema values key i good is fit lt =
    let a = key_count schema good in
    let b = ap length is in
    let d = all_fit-length (key_columns schema) (map value_of values) fit in
    let e = length-map values value_of in
    omega arith

-- past the key's places nothing is left
pub key_ended : (schema : Schema) (values : List CodeValue) (key : List ℕ) (i : ℕ) → is_schema schema ≡ true → key ≡ schema.key → all_fit (key_columns schema) (map value_of values) ≡ true → length key ≤ i → row_bytes (drop i (key_columns schema)) (drop i (map value_of values)) ≡ []
key_ended schema values key i good is fit past =
    let a = key_count schema good in
    let b = ap length is in
    let d = all_fit-length (key_columns schema) (map value_of values) fit in
    row_end (key_columns schema) (map value_of values) i (omega arith) d

-- the values of all places of the key are the key's
pub gathered_all : (schema : Schema) (values : List Value) (lent : List CodeValue) (key : List ℕ) (i : ℕ) → is_schema schema ≡ true → all_fit schema.columns values ≡ true → key ≡ schema.key → i ≤ length key → length key ≤ i
    → map value_of (take i lent) ≡ take i (picked values schema.key) → map value_of (take (length key) lent) ≡ picked values schema.key
gathered_all schema values lent key i good fit is most least so =
    let same : length key ≡ i = omega arith in
    let count = length-picked values schema.key (key_places_values schema values good fit) in
    let size = ap length is in
    ap (λ (n : ℕ). map value_of (take n lent)) same ∙ so ∙ take_all i (picked values schema.key) (omega arith)
