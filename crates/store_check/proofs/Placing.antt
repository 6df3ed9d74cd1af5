-- Tables that are laid one behind another.
use Rattle.std.proofs.Common.{◌≡◌, ℕ, true, ◌&&◌, List, [], ◌∷◌, length, refl, ap, arith, leb-true}
use Rattle.std.specs.Prelude.{bytes_eq}
use Rattle.std.specs.List.{AllByRecursion, list_all}
use Rattle.std.specs.Map.{keys_of, values_of}
use Rattle.drda_words.specs.Order.{rises}
use Rattle.row_values.specs.Schema.{Schema, is_name, is_schema}
use Rattle.row_values.specs.Row.{is_row}
use Rattle.row_values.specs.Key.{key_cmp, row_key}
use Rattle.row_values.proofs.ValueLaws.{first_true, second_true}
use Rattle.row_values.proofs.RowColumns.{row_is}
use Rattle.key_map.specs.Merging.{Rows}
use Rattle.row_pages.specs.Laying.{IsShort}
use Rattle.tables.specs.Tables.{Table}
use Rattle.tables.specs.View.{is_entry, is_table}
use Rattle.table_map.specs.Keyed.{keyed_rows}
use Rattle.table_map.specs.Table.{without_keys}
use Rattle.store_check.specs.Laying.{IsGood}

-- ---- the rows of a table

pub bare_under : (key_of : List ℕ → List ℕ) (rows : List (List ℕ)) → without_keys (keyed_rows key_of rows) ≡ rows
bare_under key_of [] = refl
bare_under key_of (r ∷ rows) = ap (λ (l : List (List ℕ)). r ∷ l) (bare_under key_of rows)

pub table_parts : (t : Table) → is_table t ≡ true → (is_schema t.schema ≡ true) × (list_all (is_entry t.schema) t.rows ≡ true)
table_parts t h =
    let front = first_true (is_schema t.schema && list_all (is_entry t.schema) t.rows) (rises (key_cmp t.schema) (keys_of t.rows)) h in
    (first_true (is_schema t.schema) (list_all (is_entry t.schema) t.rows) front, second_true (is_schema t.schema) (list_all (is_entry t.schema) t.rows) front)

all_rows : (schema : Schema) (rows : Rows) → list_all (is_entry schema) rows ≡ true → AllByRecursion (λ row. is_row schema row ≡ true) (values_of rows)
all_rows schema [] good = tt
all_rows schema (e ∷ rows) good = (
  first_true (is_row schema e.1) (bytes_eq e.0 (row_key schema e.1)) (first_true (is_entry schema e) (list_all (is_entry schema) rows) good),
  all_rows schema rows (second_true (is_entry schema e) (list_all (is_entry schema) rows) good),
)

pub good_rows : (e : List ℕ × Table) → IsGood e → AllByRecursion (λ row. is_row e.1.schema row ≡ true) (values_of e.1.rows)
good_rows e good = all_rows e.1.schema e.1.rows (table_parts e.1 (second_true (is_name e.0) (is_table e.1) good)).1

-- a row of a schema fits into a page
short_row : (schema : Schema) (row : List ℕ) → is_row schema row ≡ true → IsShort row
short_row schema row good = omega (arith, leb-true (length row) 4000 (row_is schema row good).0)

pub all_short : (schema : Schema) (rows : List (List ℕ)) → AllByRecursion (λ row. is_row schema row ≡ true) rows → AllByRecursion IsShort rows
all_short schema [] all = tt
all_short schema (r ∷ rows) all = (short_row schema r all.0, all_short schema rows all.1)
