-- Columns that are picked by their places.
use Rattle.std.proofs.Common.{◌≡◌, ◌∙◌, ℕ, ◌<◌, ◌&&◌, List, [], ◌∷◌, true, refl, sym, ap, length, map, get_or, nat_le, Some, arith}
use Rattle.std.specs.List.{list_all, slice_get}
use Rattle.std.specs.Prelude.{is_some}
use Rattle.std.proofs.lemmas.List.{length-map}
use Rattle.std.proofs.lemmas.Option.{slice_get-get_or}
use Rattle.row_values.specs.declared.column.Column.{Column as CodeColumn}
use Rattle.row_values.specs.Column.{Column, column_of}
use Rattle.std.proofs.lemmas.Bool.Decides.{nat_tests}
use Rattle.row_values.specs.Schema.{Schema, are_columns, goes_on_name, is_capital, is_column, is_key_of, is_limit, is_name, is_schema, no_repeat, picked, same_name}
use Rattle.row_values.proofs.Keys.{are_places, length-picked, picked_all, picked_at}
use Rattle.row_values.proofs.ValueLaws.{both_true, first_true, second_true}
use Rattle.std.specs.Prelude.{Bool, ◌++◌}
use Rattle.std.specs.Int.{to_be_bytes, w16}
use Rattle.std.specs.List.{flat_map}
use Rattle.ddm_objects.specs.Writing.{spelled}
use Rattle.ddm_objects.specs.declared.code_point.TheConstants.{SQLDARD}
use Rattle.sqlam_replies.specs.Sqldard.{are_described, column_group, sqldard}
use Rattle.tables.specs.RowList.{is_selection}
use Rattle.sqlam_replies.proofs.Appending.{all_at, shown_at, within}

-- a place that is read from the list
pub read_at : (places : List ℕ) (i place : ℕ) → i < length places → place ≡ get_or places i 0 → slice_get places i ≡ Some place
read_at places i place lt is = slice_get-get_or places i 0 lt ∙ ap (λ (n : ℕ). Some n) (sym is)

-- it is one of the columns
pub place_within : (columns : List CodeColumn) (places : List ℕ) (i place : ℕ) → are_places (map column_of columns) places ≡ true → slice_get places i ≡ Some place → place < length columns
place_within columns places i place all at =
    let some = all_at (λ p. is_some (slice_get (map column_of columns) p)) places i place all at in
    let lt = within (map column_of columns) place some in
    let same : length (map column_of columns) ≡ length columns = length-map columns column_of in
    omega (arith, lt, same)

pub column_picked : (columns : List CodeColumn) (places : List ℕ) (i place : ℕ) (column : CodeColumn) → are_places (map column_of columns) places ≡ true → slice_get places i ≡ Some place → place < length columns → column ≡ get_or columns place column
    → slice_get (picked (map column_of columns) places) i ≡ Some (column_of column)
column_picked columns places i place column all at lt is = picked_at (map column_of columns) places i place all at ∙ shown_at column_of columns place column lt is

-- ---- the columns of a schema can be described

name_short : (name : List ℕ) → is_name name ≡ true → nat_le (length name) 30 ≡ true
name_short [] good = refl
name_short (b ∷ bs) good =
    let short : nat_le (length bs) 29 ≡ true = second_true (is_capital b && list_all goes_on_name bs) (nat_le (length bs) 29) good in
    grind (arith, nat_tests)

pub names_short : (columns : List Column) → list_all is_column columns ≡ true → list_all (λ (c : Column). nat_le (length c.name) 30) columns ≡ true
names_short [] all = refl
names_short (c ∷ cs) all =
    both_true (nat_le (length c.name) 30) (list_all (λ (x : Column). nat_le (length x.name) 30) cs)
    (name_short c.name (first_true (is_name c.name) (is_limit c.kind c.limit) (first_true (is_column c) (list_all is_column cs) all)))
    (names_short cs (second_true (is_column c) (list_all is_column cs) all))

pub schema_names : (schema : Schema) → is_schema schema ≡ true → list_all (λ (c : Column). nat_le (length c.name) 30) schema.columns ≡ true
schema_names schema good =
    let columns = first_true (are_columns schema.columns) (is_key_of schema.columns schema.key) good in
    let front = first_true (nat_le (length schema.columns) 64 && list_all is_column schema.columns) (no_repeat same_name schema.columns) columns in
    names_short schema.columns (second_true (nat_le (length schema.columns) 64) (list_all is_column schema.columns) front)

pub selected_size : (schema : Schema) (selected : List ℕ) → is_selection schema selected ≡ true → length (picked schema.columns selected) ≡ length selected
selected_size schema selected good =
    length-picked schema.columns selected (second_true (nat_le (length selected) 64) (list_all (λ place. is_some (slice_get schema.columns place)) selected) good)

pub selected_few : (schema : Schema) (selected : List ℕ) → is_selection schema selected ≡ true → nat_le (length (picked schema.columns selected)) 128 ≡ true
selected_few schema selected good =
    let size = selected_size schema selected good in
    let few = first_true (nat_le (length selected) 64) (list_all (λ place. is_some (slice_get schema.columns place)) selected) good in
    grind (arith, nat_tests)

pub selected_described : (schema : Schema) (selected : List ℕ) → is_schema schema ≡ true → is_selection schema selected ≡ true → are_described (picked schema.columns selected) ≡ true
selected_described schema selected good selection =
    both_true (nat_le (length (picked schema.columns selected)) 128) (list_all (λ (c : Column). nat_le (length c.name) 30) (picked schema.columns selected))
    (selected_few schema selected selection)
    (picked_all (λ (c : Column). nat_le (length c.name) 30) schema.columns selected (schema_names schema good))

-- the description with a count of its own
abbrev pub counted_sqldard : Bool → ℕ → List Column → List ℕ
counted_sqldard unicode n columns = spelled SQLDARD (0xFF ∷ 0xFF ∷ to_be_bytes w16 n ++ flat_map (column_group unicode) columns)

pub same_sqldard : (unicode : Bool) (columns : List Column) (schema : Schema) (selected : List ℕ) → columns ≡ schema.columns → is_selection schema selected ≡ true
    → counted_sqldard unicode (length selected) (picked columns selected) ≡ sqldard unicode (picked schema.columns selected)
same_sqldard unicode columns schema selected same good =
    ap (λ (l : List Column). counted_sqldard unicode (length selected) (picked l selected)) same
    ∙ ap (λ (n : ℕ). counted_sqldard unicode n (picked schema.columns selected)) (sym (selected_size schema selected good))
