-- The rows of a table are rows of its schema.
use Rattle.std.proofs.Common.{◌≡◌, ℕ, Bool, true, false, ◌&&◌, List, [], ◌∷◌, Option, Some, None, refl, ap, subst, ◌∙◌, option_map, Err}
use Rattle.std.specs.Prelude.{bytes_eq, unwrap_or}
use Rattle.std.specs.Option.{option_to_list}
use Rattle.std.specs.List.{list_all}
use Rattle.std.specs.Map.{keys_of, values_of}
use Rattle.drda_words.specs.Order.{rises}
use Rattle.row_values.specs.Schema.{Schema, is_schema}
use Rattle.row_values.specs.Row.{is_row}
use Rattle.row_values.specs.Key.{key_cmp, row_key}
use Rattle.row_values.specs.declared.row.ReadError.{ReadError}
use Rattle.row_values.specs.declared.row.ReadError.TheVariants.{Damaged}
use Rattle.tables.specs.RowList.{RowList}
use Rattle.tables.specs.Tables.{Store, Table, is_row_at, row_of, schema_of, table_of}
use Rattle.tables.specs.View.{is_entry, is_store, is_table}
use Rattle.tables.specs.Laws.{FoundAreRows, TablesAreTables}
use Rattle.sql_semantics.specs.Frame.{rows_covered}
use Rattle.sql_semantics.specs.Scope.{Scope, Names, All, One}
use Rattle.small_sql.specs.Reading.{DamagedBy}

first_true : (a b : Bool) → (a && b) ≡ true → a ≡ true
first_true true b h = refl
first_true false b h = absurd cc

second_true : (a b : Bool) → (a && b) ≡ true → b ≡ true
second_true true b h = h
second_true false b h = absurd cc

both_true : (a b : Bool) → a ≡ true → b ≡ true → (a && b) ≡ true
both_true true b first second = second
both_true false b first second = absurd cc

some_inside : {A : Type 0} (x y : A) → Some x ≡ Some y → x ≡ y
some_inside x y h = cc

entries_are_rows : (schema : Schema) (es : List (List ℕ × List ℕ)) → list_all (is_entry schema) es ≡ true → list_all (is_row schema) (values_of es) ≡ true
entries_are_rows schema [] h = refl
entries_are_rows schema (e ∷ es) h =
    both_true (is_row schema e.1) (list_all (is_row schema) (values_of es))
    (first_true (is_row schema e.1) (bytes_eq e.0 (row_key schema e.1)) (first_true (is_entry schema e) (list_all (is_entry schema) es) h))
    (entries_are_rows schema es (second_true (is_entry schema e) (list_all (is_entry schema) es) h))

table_rows : (t : Table) → is_table t ≡ true → list_all (is_row t.schema) (values_of t.rows) ≡ true
table_rows t good =
    entries_are_rows t.schema t.rows
    (second_true (is_schema t.schema) (list_all (is_entry t.schema) t.rows)
    (first_true (is_schema t.schema && list_all (is_entry t.schema) t.rows) (rises (key_cmp t.schema) (keys_of t.rows)) good))

rows_by : (schema : Schema) (o : Option Table) → ((t : Table) → o ≡ Some t → is_table t ≡ true) → option_map (λ (t : Table). t.schema) o ≡ Some schema
    → list_all (is_row schema) (unwrap_or (option_map (λ (t : Table). values_of t.rows) o) []) ≡ true
rows_by schema None good there = refl
rows_by schema (Some t) good there = subst (λ (sh : Schema). list_all (is_row sh) (values_of t.rows) ≡ true) (some_inside t.schema schema there) (table_rows t (good t refl))

row_by : (schema : Schema) (o : Option (List ℕ)) (key : List ℕ) (known : Option Schema) → known ≡ Some schema → ((row : List ℕ) → o ≡ Some row → is_row_at known row key ≡ true) → list_all (is_row schema) (option_to_list o) ≡ true
row_by schema None key known there good = refl
row_by schema (Some row) key known there good =
    let at : is_row_at (Some schema) row key ≡ true = subst (λ (k : Option Schema). is_row_at k row key ≡ true) there (good row refl) in
    both_true (is_row schema row) true (first_true (is_row schema row) (bytes_eq key (row_key schema row)) at) refl

pub covered_are_rows : TablesAreTables → FoundAreRows → (s : Store) (table : List ℕ) (schema : Schema) (scope : Scope) → is_store s ≡ true → schema_of s table ≡ Some schema
    → list_all (is_row schema) (rows_covered scope table s) ≡ true
covered_are_rows tables found s table schema Names good there = refl
covered_are_rows tables found s table schema All good there = rows_by schema (table_of s table) (λ t is. tables s table t good is) there
covered_are_rows tables found s table schema (One key) good there = row_by schema (row_of s table key) key (schema_of s table) there (λ row is. found s table key row good is)

not_both : (b c : Bool) → b ≡ true → b ≡ false → c ≡ false
not_both true c holds fails = absurd cc
not_both false c holds fails = absurd cc

-- of which rows damage is told
pub damage_is : (schema : Schema) (rows : List (List ℕ)) (e : ReadError) → e ≡ Damaged → DamagedBy {A = RowList} schema rows (Err e) → list_all (is_row schema) rows ≡ false
damage_is schema rows e is bad = subst (λ (e : ReadError). DamagedBy {A = RowList} schema rows (Err e)) is bad

-- what is read of a store is not damaged
pub never_damaged : TablesAreTables → FoundAreRows → (s : Store) (table : List ℕ) (schema : Schema) (scope : Scope) (rows : List (List ℕ)) (c : Bool) → is_store s ≡ true → schema_of s table ≡ Some schema
    → rows ≡ rows_covered scope table s → list_all (is_row schema) rows ≡ false → c ≡ false
never_damaged tables found s table schema scope rows c good there is bad =
    not_both (list_all (is_row schema) rows) c (ap (list_all (is_row schema)) is ∙ covered_are_rows tables found s table schema scope good there) bad
