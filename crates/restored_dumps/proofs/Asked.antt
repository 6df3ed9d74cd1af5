-- What the statements of a dump are answered.
use Rattle.std.proofs.Common.{◌≡◌, ℕ, zero, suc, ◌+◌, ◌*◌, ◌≤◌, ◌<◌, Bool, true, false, cond, ◌&&◌, List, [], ◌∷◌, ◌++◌, length, map, filter, Option, Some, None, Ok, Err, refl, sym, ap, ◌∙◌, subst, arith}
use Rattle.std.specs.Prelude.{nat_le, nat_lt, ◌==◌, bytes_eq, option_map, is_none}
use Rattle.std.specs.List.{list_all, flat_map}
use Rattle.std.proofs.lemmas.Bool.Decides.{nat_tests}
use Rattle.std.proofs.lemmas.List.{append-nil, length-append}
use Rattle.drda_words.specs.Bytes.{AreBytes}
use Rattle.drda_words.proofs.Bytes.{front_are_bytes, rest_are_bytes}
use Rattle.sql_text.specs.declared.tree.Columns.TheVariants as columns
use Rattle.row_values.specs.declared.column.Misfit.{Misfit}
use Rattle.row_values.specs.Bytes.{column_bytes, schema_bytes}
use Rattle.row_values.specs.Column.{Column, fits, misfit_of}
use Rattle.row_values.specs.Key.{row_key}
use Rattle.row_values.specs.Row.{counted, all_fit, is_row, row_bytes, value_bytes, values_in}
use Rattle.row_values.specs.Schema.{Schema, is_column, is_name, is_schema, key_columns, picked}
use Rattle.row_values.specs.Value.{Value}
use Rattle.row_values.proofs.ByteSteps.{column_length, name_short, short_name}
use Rattle.row_values.proofs.Keys.{key_few, schema_columns}
use Rattle.row_values.proofs.ReadSteps.{values_count}
use Rattle.row_values.proofs.RowColumns.{row_is, row_values_at, row_written}
use Rattle.row_values.proofs.RowKeys.{key_fits}
use Rattle.row_values.proofs.ValueLaws.{first_true, second_true}
use Rattle.tables.specs.Change.{Change, create, put, change_bytes}
use Rattle.tables.specs.Tables.{Store, Table, rows_of, schema_of, table_of}
use Rattle.core_calls.specs.declared.sql_fault.SqlFault.{SqlFault}
use Rattle.sql_semantics.specs.Checked.{fault_or}
use Rattle.sql_semantics.specs.Insert.{first_misfit, given_key, given_row, new_row}
use Rattle.sql_semantics.specs.Keys.{key_of_values}
use Rattle.sql_semantics.specs.Meaning.{Changes, answer, has_key, meaning}
use Rattle.sql_semantics.specs.Values.{literal_value, name_of}
use Rattle.sql_semantics.specs.Create.{defined_schema}
use Rattle.sql_changes.proofs.AllPlaces.{in_order}
use Rattle.sql_spelling.specs.Meant.{created, inserted, literal_of, definition_of, key_column_of}
use Rattle.sql_spelling.proofs.Lengths.{few_columns}
use Rattle.sql_spelling.proofs.Refusing.{Each}
use Rattle.restored_dumps.proofs.Schemas.{name_again, schema_again}
use Rattle.restored_dumps.proofs.Values.{value_comes_back}

-- ---- room

at_most : (n m : ℕ) → n ≤ m → nat_le n m ≡ true
at_most n m e = grind (arith, nat_tests)

below : (n m : ℕ) → n < m → nat_lt n m ≡ true
below n m e = grind (arith, nat_tests)

columns_short : (cs : List Column) → list_all is_column cs ≡ true → length (flat_map column_bytes cs) ≤ 35 * length cs
columns_short [] is = omega arith
columns_short (c ∷ cs) is = omega (arith, column_length c, name_short c (first_true _ _ is), columns_short cs (second_true _ _ is), length-append (column_bytes c) (flat_map column_bytes cs))

create_room : (name : List ℕ) (schema : Schema) (left : ℕ) → is_name name ≡ true → is_schema schema ≡ true → 4096 ≤ left → nat_le (length (flat_map change_bytes (create name schema ∷ []))) left ≡ true
create_room name schema left is good room =
    at_most (length (flat_map change_bytes (create name schema ∷ []))) left
    (omega (
      arith,
      ap length (append-nil (change_bytes (create name schema))),
      length-append (length name ∷ name) (schema_bytes schema),
      length-append (flat_map column_bytes schema.columns) (length schema.key ∷ schema.key),
      columns_short schema.columns (schema_columns schema good),
      few_columns schema good,
      key_few schema good,
      short_name name is,
    ))

pub row_short : (schema : Schema) (row : List ℕ) → is_row schema row ≡ true → length row ≤ 4000
row_short schema row is = by (length row) (row_is schema row is).0
  where
    by : (n : ℕ) → nat_le n 4000 ≡ true → n ≤ 4000
    by n e = grind (arith, nat_tests)

pub put_short : (name row : List ℕ) → is_name name ≡ true → length row ≤ 4000 → length (change_bytes (put name row)) ≤ 4034
put_short name row is short = omega (arith, length-append (length name ∷ name) (counted row), short_name name is)

put_room : (name row : List ℕ) (left : ℕ) → is_name name ≡ true → length row ≤ 4000 → 4096 ≤ left → nat_le (length (flat_map change_bytes (put name row ∷ []))) left ≡ true
put_room name row left is short room =
    at_most (length (flat_map change_bytes (put name row ∷ []))) left (omega (arith, ap length (append-nil (change_bytes (put name row))), length-append (length name ∷ name) (counted row), short_name name is))

-- ---- tables

pub table_made : (left : ℕ) (name : List ℕ) (schema : Schema) (s : Store) → is_name name ≡ true → is_schema schema ≡ true → table_of s name ≡ None → length s < 1000 → 4096 ≤ left → meaning [] left (created name schema) s ≡ Changes (create name schema ∷ []) 0
unfolding answer
table_made left name schema s is good none few room =
    let same : name_of name ≡ name = name_again name is in
    let made : defined_schema (map definition_of schema.columns) (map key_column_of (key_columns schema)) ≡ schema = schema_again schema good in
    rw (same, none, same, made, is, good, below (length s) 1000 few, create_room name schema left is good room) refl

-- ---- rows

module _ (schema : Schema) (row : List ℕ) (good : is_schema schema ≡ true) (bytes : AreBytes row) (is : is_row schema row ≡ true) where
  written : (all_fit schema.columns (values_in schema row) ≡ true) × (row ≡ row_bytes schema.columns (values_in schema row))
  written = row_written schema row bytes is

  many : length schema.columns ≡ length (values_in schema row)
  many = sym (values_count schema.columns row (values_in schema row) (row_values_at schema row is))

  all_back : (cs : List Column) (vs : List Value) → all_fit cs vs ≡ true → AreBytes (row_bytes cs vs) → map (literal_value []) (map literal_of vs) ≡ vs
  all_back [] [] fit all = refl
  all_back [] (v ∷ vs) fit all = absurd cc
  all_back (c ∷ cs) [] fit all = refl
  all_back (c ∷ cs) (v ∷ vs) fit all =
      let one = value_comes_back [] c v (first_true _ _ fit) (front_are_bytes (value_bytes c.kind v) (row_bytes cs vs) all) in
      let more = all_back cs vs (second_true _ _ fit) (rest_are_bytes (value_bytes c.kind v) (row_bytes cs vs) all) in
      rw (one, more) refl

  back : map (literal_value []) (map literal_of (values_in schema row)) ≡ values_in schema row
  back = all_back schema.columns (values_in schema row) written.0 (subst AreBytes written.1 bytes)

  none_in : (o : Option Misfit) (b : Bool) → (is_none o && b) ≡ true → o ≡ None
  none_in None b e = refl
  none_in (Some m) b e = absurd cc

  no_misfit : (cs : List Column) (vs : List Value) → all_fit cs vs ≡ true → first_misfit cs vs ≡ None
  no_misfit [] [] fit = refl
  no_misfit [] (v ∷ vs) fit = refl
  no_misfit (c ∷ cs) [] fit = refl
  no_misfit (c ∷ cs) (v ∷ vs) fit = ap (λ o. fault_or o (first_misfit cs vs)) (none_in (misfit_of c v) _ (first_true _ _ fit)) ∙ no_misfit cs vs (second_true _ _ fit)

  row_made : new_row schema (values_in schema row) ≡ Ok row
  row_made =
      let bytes_are : row_bytes schema.columns (values_in schema row) ≡ row = sym written.1 in
      rw (written.0, bytes_are, at_most (length row) 4000 (row_short schema row is)) refl

  key_is : given_key schema columns.All (map (literal_value []) (map literal_of (values_in schema row))) ≡ Some (row_key schema row)
  unfolding given_key key_of_values
  key_is = rw (back, in_order schema (values_in schema row) many, key_fits schema (values_in schema row) good written.0) refl

  none_concerned : (k : Option (List ℕ)) (rows : List (List ℕ)) → k ≡ Some (row_key schema row) → Each (λ r. bytes_eq (row_key schema row) (row_key schema r) ≡ false) rows → filter (has_key schema k) rows ≡ []
  none_concerned k [] same apart = refl
  none_concerned k (r ∷ rows) same (first, apart) =
      let here : has_key schema k r ≡ false = ap (λ o. has_key schema o r) same ∙ first in
      rw here (none_concerned k rows same apart)

  pub row_put : (left : ℕ) (name : List ℕ) (s : Store) (t : Table) → is_name name ≡ true → table_of s name ≡ Some t → t.schema ≡ schema → Each (λ r. bytes_eq (row_key schema row) (row_key schema r) ≡ false) (rows_of s name) → 4096 ≤ left
      → meaning [] left (inserted name (values_in schema row)) s ≡ Changes (put name row ∷ []) 1
  unfolding answer
  row_put left name s t is_named found of apart room =
      let same : name_of name ≡ name = name_again name is_named in
      let known : schema_of s name ≡ Some schema = ap (option_map (λ (u : Table). u.schema)) found ∙ ap (λ u. Some u) of in
      let none = none_concerned _ (rows_of s name) key_is apart in
      let ordered : given_row schema columns.All (values_in schema row) ≡ Ok (values_in schema row) = in_order schema (values_in schema row) many in
      let misfit : first_misfit schema.columns (values_in schema row) ≡ None = no_misfit schema.columns (values_in schema row) written.0 in
      rw (same, known, same, none, back, ordered, misfit, row_made, put_room name row left is_named (row_short schema row is) room) refl
