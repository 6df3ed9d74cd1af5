-- Rows and their values, place by place.
use Rattle.std.proofs.Common.{◌≡◌, ℕ, ◌+◌, ◌<◌, ◌≤◌, zero, suc, List, [], ◌∷◌, ◌++◌, Bool, true, false, ◌&&◌, refl, sym, ap, ◌∙◌, map, length, drop, get_or, Some, option_map, arith, add-one, append_assoc, append-nil, length-append}
use Rattle.std.specs.List.{slice_get}
use Rattle.std.proofs.lemmas.Option.{slice_get-get_or, slice_get-map, slice_get_read}
use Rattle.std.proofs.lemmas.List.{length-map, drop_all}
use Rattle.row_values.specs.declared.column.Column.{Column as CodeColumn}
use Rattle.row_values.specs.declared.value.Value.{Value as CodeValue}
use Rattle.row_values.specs.Value.{Value, value_of}
use Rattle.row_values.specs.Column.{Column, column_of, fits}
use Rattle.row_values.specs.Row.{all_fit, row_bytes, value_bytes}
use Rattle.row_values.proofs.ValueLaws.{first_true, second_true}

pub all_fit-length : (columns : List Column) (values : List Value) → all_fit columns values ≡ true → length columns ≡ length values
all_fit-length [] [] fit = refl
all_fit-length [] (v ∷ vs) fit = absurd cc
all_fit-length (c ∷ cs) [] fit = absurd cc
all_fit-length (c ∷ cs) (v ∷ vs) fit = ap suc (all_fit-length cs vs (second_true _ _ fit))

pub fits_at : (columns : List Column) (values : List Value) (i : ℕ) (column : Column) (value : Value) → all_fit columns values ≡ true → slice_get columns i ≡ Some column → slice_get values i ≡ Some value → fits column value ≡ true
fits_at [] values i column value fit p q = absurd cc
fits_at (c ∷ cs) [] i column value fit p q = absurd cc
fits_at (c ∷ cs) (v ∷ vs) zero column value fit p q = let one : c ≡ column = cc in let two : v ≡ value = cc in rw (← one, ← two) (first_true _ _ fit)
fits_at (c ∷ cs) (v ∷ vs) (suc i) column value fit p q = fits_at cs vs i column value (second_true _ _ fit) p q

row_from : (columns : List Column) (values : List Value) (i : ℕ) (column : Column) (value : Value) → slice_get columns i ≡ Some column → slice_get values i ≡ Some value
    → row_bytes (drop i columns) (drop i values) ≡ value_bytes column.kind value ++ row_bytes (drop (suc i) columns) (drop (suc i) values)
row_from [] values i column value p q = absurd cc
row_from (c ∷ cs) [] i column value p q = absurd cc
row_from (c ∷ cs) (v ∷ vs) zero column value p q = let one : c ≡ column = cc in let two : v ≡ value = cc in rw (← one, ← two) refl
row_from (c ∷ cs) (v ∷ vs) (suc i) column value p q = row_from cs vs i column value p q

-- from place i on stand its value, and the values from the next place on
pub row_at : (columns : List Column) (values : List Value) (i : ℕ) (column : Column) (value : Value) → slice_get columns i ≡ Some column → slice_get values i ≡ Some value
    → row_bytes (drop i columns) (drop i values) ≡ value_bytes column.kind value ++ row_bytes (drop (i + 1) columns) (drop (i + 1) values)
row_at columns values i column value p q = rw add-one (row_from columns values i column value p q)

-- past the last place stands nothing
pub row_end : (columns : List Column) (values : List Value) (i : ℕ) → length values ≤ i → length columns ≡ length values → row_bytes (drop i columns) (drop i values) ≡ []
row_end columns values i past same =
    let all : drop i columns ≡ [] = drop_all i columns (omega arith) in
    rw all refl

pub column_at : (columns : List CodeColumn) (i : ℕ) (column : CodeColumn) → i < length columns → column ≡ get_or columns i column → slice_get (map column_of columns) i ≡ Some (column_of column)
column_at columns i column lt is = slice_get-map column_of columns i ∙ ap (option_map column_of) (slice_get_read columns (length columns) i column refl lt is)

pub value_at_place : (values : List CodeValue) (i : ℕ) (d : CodeValue) → i < length values → slice_get (map value_of values) i ≡ Some (value_of (get_or values i d))
value_at_place values i d lt = slice_get-map value_of values i ∙ ap (option_map value_of) (slice_get-get_or values i d lt)

-- as many columns as values
pub same_count : (columns : List CodeColumn) (values : List CodeValue) → all_fit (map column_of columns) (map value_of values) ≡ true → length columns ≡ length values
same_count columns values fit = sym (length-map columns column_of) ∙ all_fit-length (map column_of columns) (map value_of values) fit ∙ length-map values value_of

pub step_length : (columns : List Column) (values : List Value) (i : ℕ) (column : Column) (value : Value) → slice_get columns i ≡ Some column → slice_get values i ≡ Some value
    → length (row_bytes (drop i columns) (drop i values)) ≡ length (value_bytes column.kind value) + length (row_bytes (drop (i + 1) columns) (drop (i + 1) values))
step_length columns values i column value p q = ap length (row_at columns values i column value p q) ∙ length-append (value_bytes column.kind value) (row_bytes (drop (i + 1) columns) (drop (i + 1) values))

pub row_ends : (columns : List CodeColumn) (values : List CodeValue) (i : ℕ) → all_fit (map column_of columns) (map value_of values) ≡ true → length values ≤ i → row_bytes (drop i (map column_of columns)) (drop i (map value_of values)) ≡ []
row_ends columns values i fit past =
    let count = length-map values value_of in
    row_end (map column_of columns) (map value_of values) i (omega (arith, count)) (all_fit-length (map column_of columns) (map value_of values) fit)

pub end_length : (columns : List CodeColumn) (values : List CodeValue) (i : ℕ) → all_fit (map column_of columns) (map value_of values) ≡ true → length values ≤ i → length (row_bytes (drop i (map column_of columns)) (drop i (map value_of values))) ≡ 0
end_length columns values i fit past = ap length (row_ends columns values i fit past)

-- a place of a value is one of a column
pub in_columns : (columns : List CodeColumn) (values : List CodeValue) (i : ℕ) → all_fit (map column_of columns) (map value_of values) ≡ true → i < length values → i < length columns
in_columns columns values i fit lt = let same = same_count columns values fit in omega (arith, same)

-- bytes already there, then a row's, of which some more are there, then none is left
pub row_more : (out more all value rest : List ℕ) → more ≡ value ++ rest → out ++ more ≡ all → (out ++ value) ++ rest ≡ all
row_more out more all value rest step so = append_assoc out value rest ∙ ap (λ (l : List ℕ). out ++ l) (sym step) ∙ so

pub row_none : (out more all : List ℕ) → more ≡ [] → out ++ more ≡ all → out ≡ all
row_none out more all end so = sym (append-nil out) ∙ ap (λ (l : List ℕ). out ++ l) (sym end) ∙ so

-- ---- values that fit, place by place

fit_from : (columns : List Column) (values : List Value) (i : ℕ) (column : Column) (value : Value) → slice_get columns i ≡ Some column → slice_get values i ≡ Some value
    → all_fit (drop i columns) (drop i values) ≡ (fits column value && all_fit (drop (suc i) columns) (drop (suc i) values))
fit_from [] values i column value p q = absurd cc
fit_from (c ∷ cs) [] i column value p q = absurd cc
fit_from (c ∷ cs) (v ∷ vs) zero column value p q = let one : c ≡ column = cc in let two : v ≡ value = cc in rw (← one, ← two) refl
fit_from (c ∷ cs) (v ∷ vs) (suc i) column value p q = fit_from cs vs i column value p q

fit_step : (columns : List Column) (values : List Value) (i : ℕ) (column : Column) (value : Value) → slice_get columns i ≡ Some column → slice_get values i ≡ Some value
    → all_fit (drop i columns) (drop i values) ≡ (fits column value && all_fit (drop (i + 1) columns) (drop (i + 1) values))
fit_step columns values i column value p q = rw add-one (fit_from columns values i column value p q)

pub fit_goes_on : (columns : List Column) (values : List Value) (i : ℕ) (column : Column) (value : Value) → slice_get columns i ≡ Some column → slice_get values i ≡ Some value → fits column value ≡ true
    → all_fit (drop (i + 1) columns) (drop (i + 1) values) ≡ all_fit (drop i columns) (drop i values)
fit_goes_on columns values i column value p q fit = sym (fit_step columns values i column value p q ∙ ap (λ b. b && all_fit (drop (i + 1) columns) (drop (i + 1) values)) fit)

pub fit_stops : (columns : List Column) (values : List Value) (i : ℕ) (column : Column) (value : Value) → slice_get columns i ≡ Some column → slice_get values i ≡ Some value → fits column value ≡ false → all_fit (drop i columns) (drop i values) ≡ false
fit_stops columns values i column value p q misfit = fit_step columns values i column value p q ∙ ap (λ b. b && all_fit (drop (i + 1) columns) (drop (i + 1) values)) misfit

pub fit_ends : (columns : List Column) (values : List Value) (i : ℕ) → length columns ≤ i → length values ≤ i → all_fit (drop i columns) (drop i values) ≡ true
fit_ends columns values i past_c past_v =
    let one : drop i columns ≡ [] = drop_all i columns past_c in
    let two : drop i values ≡ [] = drop_all i values past_v in
    rw (one, two) refl

unequal : (columns : List Column) (values : List Value) (b : Bool) → all_fit columns values ≡ b → (length columns ≡ length values → ⊥) → false ≡ b
unequal columns values true is apart = absurd (apart (all_fit-length columns values is))
unequal columns values false is apart = refl

-- another number of values does not fit
pub fit_count : (columns : List Column) (values : List Value) → (length columns ≡ length values → ⊥) → false ≡ all_fit columns values
fit_count columns values apart = unequal columns values (all_fit columns values) refl apart
