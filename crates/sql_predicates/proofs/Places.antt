-- Places of columns.
use Rattle.std.proofs.Common.{◌≡◌, ◌<◌, ◌≤◌, ◌+◌, ℕ, suc, zero, Bool, true, false, ◌&&◌, List, [], ◌∷◌, ◌++◌, Option, Some, None, Ok, Err, Result, refl, sym, ap, subst, ◌∙◌, drop, arith, append_assoc}
use Rattle.std.specs.Prelude.{length, nat_le, unwrap_or, is_some}
use Rattle.std.specs.Result.{IfOk}
use Rattle.std.specs.Global.{Vec}
use Rattle.std.specs.List.{list_all, slice_get}
use Rattle.std.proofs.lemmas.Bool.{le-leb}
use Rattle.std.proofs.lemmas.Option.{slice_get-get_or, slice_get_past}
use Rattle.std.proofs.lemmas.List.Quantifiers.{position-Some}
use Rattle.drda_words.specs.Excuse.{Answers}
use Rattle.row_values.specs.Column.{Column}
use Rattle.row_values.specs.Schema.{Schema, are_columns, is_column, is_key_of, is_schema, no_repeat, same_name as one_name}
use Rattle.row_values.specs.Value.{Value, null}
use Rattle.row_values.specs.declared.column.Kind.TheVariants.{SmallInt}
use Rattle.tables.specs.RowList.{is_selection}
use Rattle.core_calls.specs.declared.statement_error.StatementError.{StatementError}
use Rattle.core_calls.specs.StatementError.{fault_of}
use Rattle.sql_semantics.specs.Checked.{and_then}
use Rattle.sql_semantics.specs.Classes.{known_place, named_places}
use Rattle.sql_semantics.specs.Values.{all_places, column_place}
use Rattle.sql_text.specs.Checks.{same_name}
use Rattle.sql_predicates.specs.Test.{value_at}

-- ---- values

-- past the last column there is no value
pub no_value : (values : List Value) (place : ℕ) → length values ≤ place → value_at values place ≡ null
no_value values place past = ap (λ (o : Option Value). unwrap_or o null) (slice_get_past values place past)

-- ---- places

any_column : Column
any_column = record { name = []; kind = SmallInt; is_nullable = true; limit = 0 }

-- the place of a column is one of the list
pub place_below : (columns : List Column) (name : List ℕ) (place : ℕ) → column_place columns name ≡ Some place → place < length columns
place_below columns name place is = (position-Some (λ c. same_name c.name name) columns place any_column is).0

all_step : {A : Type 0} (xs : List A) (i j : ℕ) → i < length xs → all_places j (drop i xs) ≡ j ∷ all_places (j + 1) (drop (suc i) xs)
all_step [] i j lt = absurd (omega arith)
all_step (x ∷ xs) zero j lt = refl
all_step (x ∷ xs) (suc i) j lt = all_step xs i j (omega arith)

-- one place more
pub places_go : {A : Type 0} (xs : List A) (i : ℕ) (done whole : List ℕ) → i < length xs → done ++ all_places i (drop i xs) ≡ whole → (done ++ i ∷ []) ++ all_places (i + 1) (drop (i + 1) xs) ≡ whole
places_go xs i done whole lt h =
    let same : i + 1 ≡ suc i = omega arith in
    append_assoc done (i ∷ []) (all_places (i + 1) (drop (i + 1) xs))
    ∙ ap (λ (n : ℕ). done ++ (i ∷ all_places (i + 1) (drop n xs))) same
    ∙ ap (λ (later : List ℕ). done ++ later) (sym (all_step xs i i lt))
    ∙ h

-- ---- selections

abbrev inside : List Column → ℕ → Bool
inside cs place = is_some (slice_get cs place)

is_inside : (cs : List Column) (place : ℕ) → place < length cs → inside cs place ≡ true
is_inside cs place lt = ap is_some (slice_get-get_or cs place any_column lt)

both_true : (a b : Bool) → a ≡ true → b ≡ true → (a && b) ≡ true
both_true true b first second = second
both_true false b first second = absurd cc

first_true : (a b : Bool) → (a && b) ≡ true → a ≡ true
first_true true b h = refl
first_true false b h = absurd cc

all_inside : (cs : List Column) (i : ℕ) (xs : List Column) → i + length xs ≤ length cs → list_all (inside cs) (all_places i xs) ≡ true
all_inside cs i [] h = refl
all_inside cs i (x ∷ xs) h = both_true (inside cs i) (list_all (inside cs) (all_places (i + 1) xs)) (is_inside cs i (omega arith)) (all_inside cs (i + 1) xs (omega arith))

all_length : (i : ℕ) (xs : List Column) → length (all_places i xs) ≡ length xs
all_length i [] = refl
all_length i (x ∷ xs) = ap suc (all_length (i + 1) xs)

few_columns : (schema : Schema) → is_schema schema ≡ true → nat_le (length schema.columns) 64 ≡ true
few_columns schema good =
    let cs = schema.columns in
    first_true (nat_le (length cs) 64) (list_all is_column cs)
    (first_true (nat_le (length cs) 64 && list_all is_column cs) (no_repeat one_name cs)
    (first_true (are_columns cs) (is_key_of cs schema.key) good))

-- all columns
pub all_selected : (schema : Schema) (cs : List Column) (places : List ℕ) → cs ≡ schema.columns → is_schema schema ≡ true → places ≡ all_places 0 cs → is_selection schema places ≡ true
all_selected schema cs places of_schema good is =
    let same : places ≡ all_places 0 schema.columns = is ∙ ap (all_places 0) of_schema in
    subst (λ (ps : List ℕ). is_selection schema ps ≡ true) (sym same)
    (both_true (nat_le (length (all_places 0 schema.columns)) 64) (list_all (inside schema.columns) (all_places 0 schema.columns))
    (ap (λ (n : ℕ). nat_le n 64) (all_length 0 schema.columns) ∙ few_columns schema good)
    (all_inside schema.columns 0 schema.columns (omega arith)))

push_inside : (cs : List Column) (found : List ℕ) (place : ℕ) → list_all (inside cs) found ≡ true → place < length cs → list_all (inside cs) (found ++ place ∷ []) ≡ true
push_inside cs [] place good lt = both_true (inside cs place) true (is_inside cs place lt) refl
push_inside cs (p ∷ found) place good lt = both_true (inside cs p) (list_all (inside cs) (found ++ place ∷ [])) (first_true (inside cs p) (list_all (inside cs) found) good) (push_inside cs found place (later (inside cs p) (list_all (inside cs) found) good) lt)
  where
    later : (a b : Bool) → (a && b) ≡ true → b ≡ true
    later true b h = h
    later false b h = absurd cc

push_length : (found : List ℕ) (place : ℕ) → length (found ++ place ∷ []) ≡ suc (length found)
push_length [] place = refl
push_length (p ∷ found) place = ap suc (push_length found place)

abbrev Selects : List Column → List ℕ → List (List ℕ) → List ℕ → Type 0
Selects cs found names places = (list_all (inside cs) places ≡ true) × (length places ≡ length found + length names)

named_by : (cs : List Column) (found : List ℕ) (name : List ℕ) (names : List (List ℕ)) (places : List ℕ) (o : Option ℕ)
    → ((found : List ℕ) → list_all (inside cs) found ≡ true → named_places cs found names ≡ Ok places → Selects cs found names places)
    → column_place cs name ≡ o → list_all (inside cs) found ≡ true → and_then (known_place o) (λ p. named_places cs (found ++ p ∷ []) names) ≡ Ok places → Selects cs found (name ∷ names) places
named_by cs found name names places None more is good h = absurd cc
named_by cs found name names places (Some p) more is good h =
    let rest = more (found ++ p ∷ []) (push_inside cs found p good (place_below cs name p is)) h in
    let size = push_length found p in
    (rest.0, omega (arith, rest.1))

named_selects : (cs : List Column) (found : List ℕ) (names : List (List ℕ)) (places : List ℕ) → list_all (inside cs) found ≡ true → named_places cs found names ≡ Ok places → Selects cs found names places
named_selects cs found [] places good h =
    let same : found ≡ places = cc in
    (subst (λ (ps : List ℕ). list_all (inside cs) ps ≡ true) same good, sym (ap length same) ∙ omega arith)
named_selects cs found (name ∷ names) places good h = named_by cs found name names places (column_place cs name) (λ more. named_selects cs more names places) refl good h

-- named columns
pub named_selected : (schema : Schema) (cs : List Column) (names : List (List ℕ)) (r : Result (Vec ℕ) StatementError) → cs ≡ schema.columns → length names ≤ 64
    → Answers (λ (places : Vec ℕ). places.items) fault_of r (named_places cs [] names) → IfOk r (λ places. is_selection schema places.items ≡ true)
named_selected schema cs names (Err e) of_schema few h = tt
named_selected schema cs names (Ok places) of_schema few h =
    let same : named_places schema.columns [] names ≡ Ok places.items = ap (λ (columns : List Column). named_places columns [] names) (sym of_schema) ∙ h in
    let selects = named_selects schema.columns [] names places.items refl same in
    both_true (nat_le (length places.items) 64) (list_all (inside schema.columns) places.items) (le-leb (length places.items) 64 (omega (arith, selects.1))) selects.0
