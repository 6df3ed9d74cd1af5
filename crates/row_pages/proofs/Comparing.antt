-- Keys of rows are compared by their values, where these lie.
use Rattle.std.proofs.Common.{◌≡◌, ℕ, ◌+◌, ◌<◌, ◌≤◌, List, [], ◌∷◌, true, false, refl, sym, ap, subst, ◌∙◌, length, drop, get_or, arith, Some, Ordering, Less, Equal, Greater}
use Rattle.std.specs.Prelude.{unwrap_or}
use Rattle.std.specs.List.{slice_get}
use Rattle.std.specs.Ordering.{is_lt, nat_cmp, ordering_then}
use Rattle.std.specs.Cmp.Lexicographic.{slice_cmp}
use Rattle.std.proofs.lemmas.Cmp.{nat_list_cmp_total, tied_itself}
use Rattle.std.proofs.lemmas.List.{drop_all}
use Rattle.row_values.specs.Value.{Value, value_cmp}
use Rattle.row_values.specs.Schema.{Schema, is_schema, key_columns, picked}
use Rattle.row_values.specs.Row.{all_fit, row_bytes, values_in}
use Rattle.row_values.specs.Key.{key_cmp, key_values, row_key}
use Rattle.row_values.proofs.ReadSteps.{drop_at}
use Rattle.row_values.proofs.Keys.{key_good, key_places, length-picked, place_within}
use Rattle.row_values.proofs.RowKeys.{key_fits, key_place, key_places_values, key_value_at}
use Rattle.row_values.proofs.KeyOrder.{OrderedFrom, values_exact}
use Rattle.row_pages.specs.Judging.{comes_before}

-- the values of a row's key
abbrev pub keyed : Schema → List ℕ → List Value
keyed schema row = picked (values_in schema row) schema.key

-- the row's values fit the schema's columns
abbrev pub Fits : Schema → List ℕ → Type 0
Fits schema row = all_fit schema.columns (values_in schema row) ≡ true

-- ---- values from a place on

-- the order of the values at a place and of those behind it is that of all
pub order_at : (xs ys : List Value) (i : ℕ) (x y : Value) (o : Ordering) → slice_get xs i ≡ Some x → drop i ys ≡ y ∷ drop (i + 1) ys → value_cmp x y ≡ o → OrderedFrom xs ys i
    → ordering_then o (slice_cmp value_cmp (drop (i + 1) xs) (drop (i + 1) ys)) ≡ slice_cmp value_cmp xs ys
order_at xs ys i x y o at_x at_y is so =
    ap (λ (r : Ordering). ordering_then r (slice_cmp value_cmp (drop (i + 1) xs) (drop (i + 1) ys))) (sym is)
    ∙ sym (ap (λ (l : List Value). slice_cmp value_cmp l (drop i ys)) (drop_at xs i x at_x) ∙ ap (slice_cmp value_cmp (x ∷ drop (i + 1) xs)) at_y) ∙ so

-- behind the last place nothing decides
pub tie_at_end : (xs ys : List Value) (i : ℕ) → length xs ≤ i → length ys ≤ i → OrderedFrom xs ys i → Equal ≡ slice_cmp value_cmp xs ys
tie_at_end xs ys i past_xs past_ys so =
    sym (ap (λ (l : List Value). slice_cmp value_cmp l (drop i ys)) (drop_all i xs past_xs) ∙ ap (slice_cmp value_cmp []) (drop_all i ys past_ys)) ∙ so

-- ---- the key of a row

-- the place of a column that is in the key
pub place_at : (schema s : Schema) (key : List ℕ) (i place : ℕ) → s ≡ schema → key ≡ s.key → i < length key → place ≡ get_or key i 0 → slice_get schema.key i ≡ Some place
place_at schema s key i place schemas keys lt is = key_place schema key i place (keys ∙ ap (λ (t : Schema). t.key) schemas) lt is

pub is_column : (schema : Schema) (i place : ℕ) → is_schema schema ≡ true → slice_get schema.key i ≡ Some place → place < length schema.columns
is_column schema i place good at = place_within schema.columns schema.key i place (key_places schema good) at (length schema.columns) refl

-- what is known of a schema or of its row is known of the same schema
pub good_as : (schema s : Schema) → s ≡ schema → is_schema s ≡ true → is_schema schema ≡ true
good_as schema s schemas good = ap is_schema (sym schemas) ∙ good

pub within_as : (schema s : Schema) (key : List ℕ) (i : ℕ) → s ≡ schema → key ≡ s.key → i < length key → i < length schema.key
within_as schema s key i schemas keys lt = let same = ap length (keys ∙ ap (λ (t : Schema). t.key) schemas) in omega arith

pub end_as : (schema s : Schema) (key : List ℕ) (i : ℕ) → s ≡ schema → key ≡ s.key → length key ≤ i → length schema.key ≤ i
end_as schema s key i schemas keys past = let same = ap length (keys ∙ ap (λ (t : Schema). t.key) schemas) in omega arith

pub fit_as : (schema s : Schema) (row : List ℕ) → s ≡ schema → Fits s row → Fits schema row
fit_as schema s row schemas fit = subst (λ (t : Schema). Fits t row) schemas fit

pub value_as : (schema s : Schema) (row : List ℕ) (place : ℕ) (x : Value) → s ≡ schema → slice_get (values_in s row) place ≡ Some x → slice_get (values_in schema row) place ≡ Some x
value_as schema s row place x schemas is = ap (λ (t : Schema). slice_get (values_in t row) place) (sym schemas) ∙ is

pub is_column_as : (schema s : Schema) (place : ℕ) → s ≡ schema → place < length schema.columns → place < length s.columns
is_column_as schema s place schemas lt = subst (λ (t : Schema). place < length t.columns) (sym schemas) lt

module _ (schema : Schema) (row : List ℕ) (good : is_schema schema ≡ true) (fit : Fits schema row) where
  -- it has a value for each place
  pub keyed_count : length (keyed schema row) ≡ length schema.key
  keyed_count = length-picked (values_in schema row) schema.key (key_places_values schema (values_in schema row) good fit)

  pub keyed_at : (i place : ℕ) (x : Value) → slice_get schema.key i ≡ Some place → slice_get (values_in schema row) place ≡ Some x → slice_get (keyed schema row) i ≡ Some x
  keyed_at i place x at is = key_value_at schema (values_in schema row) i place x good fit at is

  pub keyed_is : key_values schema (row_key schema row) ≡ keyed schema row
  keyed_is = ap (λ o. unwrap_or o []) (key_good schema (keyed schema row) good (key_fits schema (values_in schema row) good fit))

decided : (o p : Ordering) → (o ≡ Equal → p ≡ Equal) → ordering_then o p ≡ o
decided Less p h = refl
decided Equal p h = h refl
decided Greater p h = refl

-- ---- two rows

module _ (schema : Schema) (a b : List ℕ) (good : is_schema schema ≡ true) (fit_a : Fits schema a) (fit_b : Fits schema b) where
  -- they are in order by the values of their keys
  by_values : key_cmp schema (row_key schema a) (row_key schema b) ≡ slice_cmp value_cmp (keyed schema a) (keyed schema b)
  by_values =
      let xs = keyed schema a in let ys = keyed schema b in let p = row_key schema a in let q = row_key schema b in
      ap (λ (l : List Value). ordering_then (slice_cmp value_cmp l (key_values schema q)) (slice_cmp nat_cmp p q)) (keyed_is schema a good fit_a)
      ∙ ap (λ (l : List Value). ordering_then (slice_cmp value_cmp xs l) (slice_cmp nat_cmp p q)) (keyed_is schema b good fit_b)
      ∙ decided (slice_cmp value_cmp xs ys) (slice_cmp nat_cmp p q)
      (λ tie. subst (λ (k : List ℕ). slice_cmp nat_cmp p k ≡ Equal) (ap (row_bytes (key_columns schema)) (values_exact xs ys tie)) (tied_itself nat_list_cmp_total p))

  told : (o : Ordering) → o ≡ slice_cmp value_cmp (keyed schema a) (keyed schema b) → is_lt o ≡ comes_before schema a b
  told o is = ap is_lt (is ∙ sym by_values)

  -- their values at a place, and those behind it
  pub both_at : (i place : ℕ) (x y : Value) (o : Ordering) → slice_get schema.key i ≡ Some place → slice_get (values_in schema a) place ≡ Some x → slice_get (values_in schema b) place ≡ Some y → value_cmp x y ≡ o
      → OrderedFrom (keyed schema a) (keyed schema b) i → ordering_then o (slice_cmp value_cmp (drop (i + 1) (keyed schema a)) (drop (i + 1) (keyed schema b))) ≡ slice_cmp value_cmp (keyed schema a) (keyed schema b)
  both_at i place x y o at in_a in_b is so =
      order_at (keyed schema a) (keyed schema b) i x y o (keyed_at schema a good fit_a i place x at in_a) (drop_at (keyed schema b) i y (keyed_at schema b good fit_b i place y at in_b)) is so

  -- the first difference decides
  pub first_differs : (i place : ℕ) (x y : Value) (o : Ordering) → slice_get schema.key i ≡ Some place → slice_get (values_in schema a) place ≡ Some x → slice_get (values_in schema b) place ≡ Some y → value_cmp x y ≡ o
      → ((p : Ordering) → ordering_then o p ≡ o) → OrderedFrom (keyed schema a) (keyed schema b) i → is_lt o ≡ comes_before schema a b
  first_differs i place x y o at in_a in_b is decides so = told o (sym (decides _) ∙ both_at i place x y o at in_a in_b is so)

  -- there is none
  pub none_differs : (i : ℕ) → length schema.key ≤ i → OrderedFrom (keyed schema a) (keyed schema b) i → false ≡ comes_before schema a b
  none_differs i past so =
      let count_a = keyed_count schema a good fit_a in let count_b = keyed_count schema b good fit_b in
      told Equal (tie_at_end (keyed schema a) (keyed schema b) i (omega arith) (omega arith) so)
