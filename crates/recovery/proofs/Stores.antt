-- What a store says of a table that it has.
use Rattle.std.proofs.Common.{◌≡◌, ℕ, List, [], ◌∷◌, Bool, true, false, cond, ◌&&◌, refl, sym, ap, ◌∙◌, Option, Some, None, option_map}
use Rattle.std.specs.Prelude.{bytes_eq, unwrap_or}
use Rattle.std.specs.Option.{option_to_list}
use Rattle.std.specs.List.{list_all}
use Rattle.std.specs.Map.{keys_of, values_of}
use Rattle.std.specs.Ordering.{nat_cmp}
use Rattle.std.specs.Cmp.Lexicographic.{slice_cmp}
use Rattle.drda_words.specs.Order.{rises}
use Rattle.row_values.specs.Schema.{Schema, is_name, is_schema}
use Rattle.row_values.specs.Row.{is_row}
use Rattle.row_values.specs.Key.{row_key}
use Rattle.row_values.proofs.ValueLaws.{both_true, first_true, mapped, second_true}
use Rattle.tables.specs.Tables.{Store, Table, is_row_at, row_of, rows_of, schema_of, table_of}
use Rattle.tables.specs.View.{is_entry, is_store, is_table}
use Rattle.tables.specs.Laws.{FoundAreRows, TablesAreTables}
use Rattle.tables.proofs.Finding.{same_bytes}
use Rattle.tables.proofs.Keeping.{parts}
use Rattle.sql_semantics.specs.Scope.{All, Names, One, Scope}
use Rattle.sql_semantics.specs.Frame.{rows_covered}

-- ---- its name

abbrev is_named : List ℕ × Table → Bool
is_named e = is_name e.0 && is_table e.1

name_step : (e : List ℕ × Table) (rest : Option Table) (q : List ℕ) (t : Table) (b : Bool) → bytes_eq q e.0 ≡ b → is_name e.0 ≡ true → (rest ≡ Some t → is_name q ≡ true) → cond b (Some e.1) rest ≡ Some t → is_name q ≡ true
name_step e rest q t true is good more h = ap is_name (same_bytes q e.0 is) ∙ good
name_step e rest q t false is good more h = more h

name_in : (s : Store) (q : List ℕ) (t : Table) → list_all is_named s ≡ true → table_of s q ≡ Some t → is_name q ≡ true
name_in [] q t all h = absurd cc
name_in (e ∷ es) q t all h =
    name_step e (table_of es q) q t (bytes_eq q e.0) refl (first_true (is_name e.0) (is_table e.1) (first_true (is_named e) (list_all is_named es) all))
    (name_in es q t (second_true (is_named e) (list_all is_named es) all)) h

-- the table of a schema
table_there : (s : Store) (q : List ℕ) (schema : Schema) → schema_of s q ≡ Some schema → (t : Table) × (table_of s q ≡ Some t) × (t.schema ≡ schema)
table_there s q schema there = mapped (λ (t : Table). t.schema) (table_of s q) schema there

pub table_named : (s : Store) (q : List ℕ) (schema : Schema) → is_store s ≡ true → schema_of s q ≡ Some schema → is_name q ≡ true
table_named s q schema good there =
    let t = table_there s q schema there in
    name_in s q t.0 (first_true (list_all is_named s) (rises (slice_cmp nat_cmp) (keys_of s)) good) t.1

-- ---- its schema and its rows

module _ (tables : TablesAreTables) (found : FoundAreRows) where
  pub schema_good : (s : Store) (q : List ℕ) (schema : Schema) → is_store s ≡ true → schema_of s q ≡ Some schema → is_schema schema ≡ true
  schema_good s q schema good there =
      let t = table_there s q schema there in
      ap is_schema (sym t.2) ∙ (parts t.0 (tables s q t.0 good t.1)).0

  entries_are_rows : (schema : Schema) (es : List (List ℕ × List ℕ)) → list_all (is_entry schema) es ≡ true → list_all (is_row schema) (values_of es) ≡ true
  entries_are_rows schema [] all = refl
  entries_are_rows schema (e ∷ es) all =
      both_true (is_row schema e.1) (list_all (is_row schema) (values_of es))
      (first_true (is_row schema e.1) (bytes_eq e.0 (row_key schema e.1)) (first_true (is_entry schema e) (list_all (is_entry schema) es) all))
      (entries_are_rows schema es (second_true (is_entry schema e) (list_all (is_entry schema) es) all))

  all_rows : (s : Store) (q : List ℕ) (schema : Schema) → is_store s ≡ true → schema_of s q ≡ Some schema → list_all (is_row schema) (rows_of s q) ≡ true
  all_rows s q schema good there =
      let t = table_there s q schema there in
      ap (λ (o : Option Table). list_all (is_row schema) (unwrap_or (option_map (λ (x : Table). values_of x.rows) o) [])) t.1
      ∙ entries_are_rows schema t.0.rows (ap (λ (sh : Schema). list_all (is_entry sh) t.0.rows) (sym t.2) ∙ (parts t.0 (tables s q t.0 good t.1)).1)

  one_row : (schema : Schema) (k : List ℕ) (o : Option (List ℕ)) → ((row : List ℕ) → o ≡ Some row → is_row_at (Some schema) row k ≡ true) → list_all (is_row schema) (option_to_list o) ≡ true
  one_row schema k None each = refl
  one_row schema k (Some row) each = both_true (is_row schema row) true (first_true (is_row schema row) (bytes_eq k (row_key schema row)) (each row refl)) refl

  -- what a scope covers of a table are rows of its schema
  pub covered_rows : (s : Store) (q : List ℕ) (schema : Schema) (sc : Scope) → is_store s ≡ true → schema_of s q ≡ Some schema → list_all (is_row schema) (rows_covered sc q s) ≡ true
  covered_rows s q schema Names good there = refl
  covered_rows s q schema All good there = all_rows s q schema good there
  covered_rows s q schema (One k) good there =
      one_row schema k (row_of s q k) (λ row is. ap (λ (o : Option Schema). is_row_at o row k) (sym there) ∙ found s q k row good is)
