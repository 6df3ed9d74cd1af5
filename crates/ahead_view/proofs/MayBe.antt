-- What a store has may be rows of its tables.
use Rattle.std.proofs.Common.{◌≡◌, ◌==◌, ℕ, List, [], ◌∷◌, true, refl, sym, ap, ◌∙◌, length, map, Option, Some, None, option_map}
use Rattle.std.specs.Prelude.{bytes_eq, unwrap_or}
use Rattle.std.specs.List.{list_all}
use Rattle.std.specs.Map.{keys_of, values_of}
use Rattle.drda_words.specs.Order.{rises}
use Rattle.row_values.specs.Key.{key_cmp, row_key}
use Rattle.row_values.specs.Row.{is_row}
use Rattle.row_values.specs.Schema.{Schema}
use Rattle.row_values.proofs.ValueLaws.{both_true, first_true, second_true}
use Rattle.tables.specs.Tables.{Table}
use Rattle.tables.specs.View.{is_entry, is_table}
use Rattle.tables.proofs.Finding.{same_bytes}
use Rattle.tables.proofs.Keeping.{parts}
use Rattle.tables.proofs.Showing.{GoodTable}
use Rattle.row_pages.specs.Judging.{do_rise}
use Rattle.paged_tables.specs.Judged.{may_be_row, may_be_rows}

rows_are : (schema : Schema) (es : List (List ℕ × List ℕ)) → list_all (is_entry schema) es ≡ true → list_all (is_row schema) (values_of es) ≡ true
rows_are schema [] all = refl
rows_are schema (e ∷ es) all =
    both_true (is_row schema e.1) (list_all (is_row schema) (values_of es))
    (first_true (is_row schema e.1) (bytes_eq e.0 (row_key schema e.1)) (first_true (is_entry schema e) (list_all (is_entry schema) es) all))
    (rows_are schema es (second_true (is_entry schema e) (list_all (is_entry schema) es) all))

-- each row of a table stands at its key
pub at_keys : (schema : Schema) (es : List (List ℕ × List ℕ)) → list_all (is_entry schema) es ≡ true → map (row_key schema) (values_of es) ≡ keys_of es
at_keys schema [] all = refl
at_keys schema (e ∷ es) all =
    let same : e.0 ≡ row_key schema e.1 = same_bytes e.0 (row_key schema e.1) (second_true (is_row schema e.1) (bytes_eq e.0 (row_key schema e.1)) (first_true (is_entry schema e) (list_all (is_entry schema) es) all)) in
    ap (λ (k : List ℕ). k ∷ map (row_key schema) (values_of es)) (sym same) ∙ ap (λ (ks : List (List ℕ)). e.0 ∷ ks) (at_keys schema es (second_true (is_entry schema e) (list_all (is_entry schema) es) all))

table_rises : (t : Table) → is_table t ≡ true → do_rise t.schema (values_of t.rows) ≡ true
table_rises t good =
    let is = parts t good in
    both_true (list_all (is_row t.schema) (values_of t.rows)) (rises (key_cmp t.schema) (map (row_key t.schema) (values_of t.rows)))
    (rows_are t.schema t.rows is.1) (ap (rises (key_cmp t.schema)) (at_keys t.schema t.rows is.1) ∙ is.2)

pub rows_may_be : (t : Option Table) (rows : List (List ℕ)) → GoodTable t → rows ≡ unwrap_or (option_map (λ (u : Table). values_of u.rows) t) [] → may_be_rows (option_map (λ (u : Table). u.schema) t) rows ≡ true
rows_may_be None rows good is = ap (λ (l : List (List ℕ)). length l == 0) is
rows_may_be (Some t) rows good is = ap (do_rise t.schema) is ∙ table_rises t good

pub row_may_be : (schema : Option Schema) (row : Option (List ℕ)) (key : List ℕ) → ((r : List ℕ) → row ≡ Some r → may_be_row schema (Some r) key ≡ true) → may_be_row schema row key ≡ true
row_may_be schema None key may = refl
row_may_be schema (Some row) key may = may row refl
