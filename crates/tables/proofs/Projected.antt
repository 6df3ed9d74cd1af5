-- How long a row is of which some columns are asked for.
use Rattle.std.proofs.Common.{◌≡◌, ◌≤◌, ℕ, zero, suc, ◌*◌, Bool, true, false, List, [], ◌∷◌, length, Option, Some, None, refl, subst, arith, nat_le}
use Rattle.std.specs.Prelude.{if◌then◌else◌, is_some, option_map, unwrap_or}
use Rattle.std.specs.Option.{option_and_then}
use Rattle.std.specs.List.{cons_option, list_all, slice_get}
use Rattle.std.proofs.lemmas.Bool.Decides.{nat_tests}
use Rattle.row_values.specs.Value.{Value}
use Rattle.row_values.specs.Column.{Column, fits}
use Rattle.row_values.specs.Schema.{Schema, is_column, picked}
use Rattle.row_values.specs.Row.{all_fit, is_row, typed_value_at, value_at, values_at, values_in, values_of}
use Rattle.row_values.proofs.Keys.{all_at, row_short, schema_columns}
use Rattle.row_values.proofs.ValueLaws.{both_true, first_true, second_true}
use Rattle.tables.specs.RowList.{is_selection}
use Rattle.tables.specs.Projected.{ProjectedRowsAreShort, projected}

-- ---- the values of a row fit

module _ (c : Column) where
  abbrev fitting : Option (Value × List ℕ) → Option (Value × List ℕ)
  fitting o = option_and_then (λ (x : Value × List ℕ). if fits c x.0 then Some x else None) o

  fit_by : (b : Bool) (y x : Value × List ℕ) → fits c y.0 ≡ b → (if b then Some y else None) ≡ Some x → fits c x.0 ≡ true
  fit_by true y x is e = let same : y ≡ x = cc in subst (λ (z : Value × List ℕ). fits c z.0 ≡ true) same is
  fit_by false y x is e = absurd cc

  fitting_fits : (o : Option (Value × List ℕ)) (x : Value × List ℕ) → fitting o ≡ Some x → fits c x.0 ≡ true
  fitting_fits None x e = absurd cc
  fitting_fits (Some y) x e = fit_by (fits c y.0) y x refl e

  value_fits : (bytes : List ℕ) (x : Value × List ℕ) → value_at c bytes ≡ Some x → fits c x.0 ≡ true
  unfolding value_at
  value_fits bytes x e = fitting_fits (typed_value_at c.kind bytes) x e

last_fits : (c : Column) (cs : List Column) (x : Value) (r : Option (List Value)) (vs : List Value) → fits c x ≡ true → ((ws : List Value) → r ≡ Some ws → all_fit cs ws ≡ true) → option_map (λ values. x ∷ values) r ≡ Some vs → all_fit (c ∷ cs) vs ≡ true
last_fits c cs x None vs one rest e = absurd cc
last_fits c cs x (Some ws) vs one rest e = let same : (x ∷ ws) ≡ vs = cc in subst (λ (l : List Value). all_fit (c ∷ cs) l ≡ true) same (both_true (fits c x) (all_fit cs ws) one (rest ws refl))

all_fits : (c : Column) (cs : List Column) (o : Option (Value × List ℕ)) (vs : List Value) → ((x : Value × List ℕ) → o ≡ Some x → fits c x.0 ≡ true) → ((bytes : List ℕ) (ws : List Value) → values_at cs bytes ≡ Some ws → all_fit cs ws ≡ true)
    → option_and_then (λ (x : Value × List ℕ). option_map (λ values. x.0 ∷ values) (values_at cs x.1)) o ≡ Some vs → all_fit (c ∷ cs) vs ≡ true
all_fits c cs None vs one rest e = absurd cc
all_fits c cs (Some x) vs one rest e = last_fits c cs x.0 (values_at cs x.1) vs (one x refl) (rest x.1) e

values_fit : (columns : List Column) (bytes : List ℕ) (vs : List Value) → values_at columns bytes ≡ Some vs → all_fit columns vs ≡ true
values_fit [] [] vs e = let same : [] ≡ vs = cc in subst (λ (l : List Value). all_fit [] l ≡ true) same refl
values_fit [] (b ∷ bs) vs e = absurd cc
values_fit (c ∷ cs) bytes vs e = all_fits c cs (value_at c bytes) vs (value_fits c bytes) (values_fit cs) e

row_by : (schema : Schema) (row : List ℕ) (b : Bool) (vs : List Value) → (if b then values_at schema.columns row else None) ≡ Some vs → all_fit schema.columns vs ≡ true
row_by schema row true vs e = values_fit schema.columns row vs e
row_by schema row false vs e = absurd cc

row_fits : (schema : Schema) (row : List ℕ) (o : Option (List Value)) → values_of schema row ≡ o → is_some o ≡ true → all_fit schema.columns (unwrap_or o []) ≡ true
row_fits schema row None is h = absurd cc
row_fits schema row (Some vs) is h = row_by schema row (nat_le (length row) 4000) vs is

-- ---- and so do those that are asked for

record Fits (c : Column) (vs : List Value) (p : ℕ) : Type 0 where
  value : Value
  there : slice_get vs p ≡ Some value
  fit : fits c value ≡ true

fits_at : (cs : List Column) (vs : List Value) (p : ℕ) (c : Column) → all_fit cs vs ≡ true → slice_get cs p ≡ Some c → Fits c vs p
fits_at [] vs p c fit is = absurd cc
fits_at (d ∷ cs) [] p c fit is = absurd cc
fits_at (d ∷ cs) (v ∷ vs) zero c fit is = let same : d ≡ c = cc in record { value = v; there = refl; fit = subst (λ (e : Column). fits e v ≡ true) same (first_true (fits d v) (all_fit cs vs) fit) }
fits_at (d ∷ cs) (v ∷ vs) (suc p) c fit is =
    let rest = fits_at cs vs p c (second_true (fits d v) (all_fit cs vs) fit) is in
    record { value = rest.value; there = rest.there; fit = rest.fit }

-- what is picked first, by what stands there
pick_fits : (cs : List Column) (vs : List Value) (p : ℕ) (ps : List ℕ) (o : Option Column) → all_fit cs vs ≡ true → slice_get cs p ≡ o → is_some o ≡ true → all_fit (picked cs ps) (picked vs ps) ≡ true → all_fit (picked cs (p ∷ ps)) (picked vs (p ∷ ps)) ≡ true
pick_fits cs vs p ps None fit is h more = absurd cc
pick_fits cs vs p ps (Some c) fit is h more =
    let here = fits_at cs vs p c fit is in
    let there = here.there in let good = here.fit in
    rw (is, there, good, more) refl

picked_fit : (cs : List Column) (vs : List Value) (ps : List ℕ) → all_fit cs vs ≡ true → list_all (λ p. is_some (slice_get cs p)) ps ≡ true → all_fit (picked cs ps) (picked vs ps) ≡ true
picked_fit cs vs [] fit h = refl
picked_fit cs vs (p ∷ ps) fit h =
    pick_fits cs vs p ps (slice_get cs p) fit refl (first_true (is_some (slice_get cs p)) (list_all (λ q. is_some (slice_get cs q)) ps) h) (picked_fit cs vs ps fit (second_true (is_some (slice_get cs p)) (list_all (λ q. is_some (slice_get cs q)) ps) h))

-- the columns that are picked, and how many
picked_good : (cs : List Column) (p : ℕ) (o : Option Column) (rest : List Column) → list_all is_column cs ≡ true → slice_get cs p ≡ o → list_all is_column rest ≡ true → list_all is_column (cons_option o rest) ≡ true
picked_good cs p None rest all is more = more
picked_good cs p (Some c) rest all is more = both_true (is_column c) (list_all is_column rest) (all_at is_column cs p c all is) more

all_good : (cs : List Column) (ps : List ℕ) → list_all is_column cs ≡ true → list_all is_column (picked cs ps) ≡ true
all_good cs [] all = refl
all_good cs (p ∷ ps) all = picked_good cs p (slice_get cs p) (picked cs ps) all refl (all_good cs ps all)

count_step : (o : Option Column) (rest : List Column) (n : ℕ) → length rest ≤ n → length (cons_option o rest) ≤ suc n
count_step None rest n h = omega (arith, h)
count_step (Some c) rest n h = omega (arith, h)

picked_count : (cs : List Column) (ps : List ℕ) → length (picked cs ps) ≤ length ps
picked_count cs [] = omega arith
picked_count cs (p ∷ ps) = count_step (slice_get cs p) (picked cs ps) (length ps) (picked_count cs ps)

pub rows_are_short : ProjectedRowsAreShort
rows_are_short l i row good listed is =
    let cs = l.schema.columns in let ps = l.selected in
    let selection = first_true (is_selection l.schema ps) (list_all (is_row l.schema) l.rows) listed in
    let is_one : is_row l.schema row ≡ true = all_at (is_row l.schema) l.rows i row (second_true (is_selection l.schema ps) (list_all (is_row l.schema) l.rows) listed) is in
    let places = second_true (nat_le (length ps) 64) (list_all (λ place. is_some (slice_get cs place)) ps) selection in
    let told : nat_le (length ps) 64 ≡ true = first_true (nat_le (length ps) 64) (list_all (λ place. is_some (slice_get cs place)) ps) selection in
    let few : length ps ≤ 64 = grind (arith, nat_tests) in
    let fit = picked_fit cs (values_in l.schema row) ps (row_fits l.schema row (values_of l.schema row) refl is_one) places in
    let most : length (projected l.schema ps row) ≤ 2003 * length (picked cs ps) = row_short (picked cs ps) (picked (values_in l.schema row) ps) (all_good cs ps (schema_columns l.schema good)) fit in
    let count = picked_count cs ps in
    omega (arith, few, most, count)
