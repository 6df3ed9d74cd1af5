-- A store in which a table has other rows.
use Rattle.std.proofs.Common.{◌≡◌, ℕ, List, [], ◌∷◌, Bool, true, false, cond, refl, sym, ap, ◌∙◌, length, map, Option, Some, None, option_map, if◌then◌else◌, arith, eqb-true}
use Rattle.std.specs.Prelude.{◌&&◌, ◌==◌, bytes_eq, unwrap_or}
use Rattle.std.specs.List.{list_all}
use Rattle.std.specs.Map.{keys_of, values_of}
use Rattle.std.specs.Ordering.{nat_cmp}
use Rattle.std.specs.Cmp.Lexicographic.{slice_cmp}
use Rattle.drda_words.specs.Order.{rises}
use Rattle.row_values.specs.Key.{key_cmp, row_key}
use Rattle.row_values.specs.Row.{is_row}
use Rattle.row_values.specs.Schema.{Schema, is_name, is_schema}
use Rattle.row_values.proofs.ValueLaws.{both_true, first_true, second_true}
use Rattle.tables.specs.Tables.{Store, Table, rows_of, schema_of, table_of, with_table}
use Rattle.tables.specs.View.{is_entry, is_store, is_table}
use Rattle.tables.proofs.Changes.{table_after}
use Rattle.tables.proofs.Finding.{indeed, itself}
use Rattle.tables.proofs.Keeping.{named_table, parts, same_keys}
use Rattle.tables.proofs.Showing.{GoodTable, good_table}
use Rattle.ahead_view.specs.Given.{with_rows}
use Rattle.row_pages.specs.Judging.{do_rise}
use Rattle.paged_tables.specs.Judged.{may_be_rows}
use Rattle.ahead_view.proofs.MayBe.{at_keys}

-- ---- the table

abbrev pub keyed : Schema → List (List ℕ) → List (List ℕ × List ℕ)
keyed schema rows = map (λ (row : List ℕ). (row_key schema row, row)) rows

entries_are : (schema : Schema) (rows : List (List ℕ)) → list_all (is_row schema) rows ≡ true → list_all (is_entry schema) (keyed schema rows) ≡ true
entries_are schema [] all = refl
entries_are schema (row ∷ rows) all =
    both_true (is_entry schema (row_key schema row, row)) (list_all (is_entry schema) (keyed schema rows))
    (both_true (is_row schema row) (bytes_eq (row_key schema row) (row_key schema row)) (first_true (is_row schema row) (list_all (is_row schema) rows) all) (itself (row_key schema row)))
    (entries_are schema rows (second_true (is_row schema row) (list_all (is_row schema) rows) all))

keys_are : (schema : Schema) (rows : List (List ℕ)) → keys_of (keyed schema rows) ≡ map (row_key schema) rows
keys_are schema [] = refl
keys_are schema (row ∷ rows) = ap (λ (ks : List (List ℕ)). row_key schema row ∷ ks) (keys_are schema rows)

values_are : (schema : Schema) (rows : List (List ℕ)) → values_of (keyed schema rows) ≡ rows
values_are schema [] = refl
values_are schema (row ∷ rows) = ap (λ (l : List (List ℕ)). row ∷ l) (values_are schema rows)

entries_same : (schema : Schema) (es : List (List ℕ × List ℕ)) → map (row_key schema) (values_of es) ≡ keys_of es → keyed schema (values_of es) ≡ es
entries_same schema [] is = refl
entries_same schema (e ∷ es) is =
    let key : row_key schema e.1 ≡ e.0 = cc in
    let keys : map (row_key schema) (values_of es) ≡ keys_of es = cc in
    ap (λ (k : List ℕ). (k, e.1) ∷ keyed schema (values_of es)) key ∙ ap (λ (l : List (List ℕ × List ℕ)). e ∷ l) (entries_same schema es keys)

pub with_rows_good : (t : Table) (rows : List (List ℕ)) → is_table t ≡ true → do_rise t.schema rows ≡ true → is_table (with_rows rows t) ≡ true
with_rows_good t rows good may =
    let all = first_true (list_all (is_row t.schema) rows) (rises (key_cmp t.schema) (map (row_key t.schema) rows)) may in
    let up = second_true (list_all (is_row t.schema) rows) (rises (key_cmp t.schema) (map (row_key t.schema) rows)) may in
    both_true (is_schema t.schema && list_all (is_entry t.schema) (keyed t.schema rows)) (rises (key_cmp t.schema) (keys_of (keyed t.schema rows)))
    (both_true (is_schema t.schema) (list_all (is_entry t.schema) (keyed t.schema rows)) (parts t good).0 (entries_are t.schema rows all))
    (ap (rises (key_cmp t.schema)) (keys_are t.schema rows) ∙ up)

-- with its own rows it is itself
pub with_rows_same : (t : Table) (rows : List (List ℕ)) → is_table t ≡ true → rows ≡ values_of t.rows → with_rows rows t ≡ t
with_rows_same t rows good is =
    ap (λ (l : List (List ℕ × List ℕ)). record { schema = t.schema; rows = l }) (ap (keyed t.schema) is ∙ entries_same t.schema t.rows (at_keys t.schema t.rows (parts t good).1))

-- ---- the store

-- the change makes a table of the one that it is made of
abbrev MakesTable : (Table → Table) → Option Table → Type 0
MakesTable f None = Unit {0}
MakesTable f (Some t) = is_table t ≡ true → is_table (f t) ≡ true

all_by : (f : Table → Table) (n : List ℕ) (e : List ℕ × Table) (es : Store) (b : Bool) → list_all named_table (e ∷ es) ≡ true → MakesTable f (cond b (Some e.1) (table_of es n))
    → (MakesTable f (table_of es n) → list_all named_table (with_table f n es) ≡ true) → list_all named_table (if b then (e.0, f e.1) ∷ es else e ∷ with_table f n es) ≡ true
all_by f n e es true all makes more =
    let one = first_true (named_table e) (list_all named_table es) all in
    both_true (named_table (e.0, f e.1)) (list_all named_table es)
    (both_true (is_name e.0) (is_table (f e.1)) (first_true (is_name e.0) (is_table e.1) one) (makes (second_true (is_name e.0) (is_table e.1) one)))
    (second_true (named_table e) (list_all named_table es) all)
all_by f n e es false all makes more = both_true (named_table e) (list_all named_table (with_table f n es)) (first_true (named_table e) (list_all named_table es) all) (more makes)

all_with : (f : Table → Table) (n : List ℕ) (s : Store) → list_all named_table s ≡ true → MakesTable f (table_of s n) → list_all named_table (with_table f n s) ≡ true
all_with f n [] all makes = refl
all_with f n (e ∷ es) all makes = all_by f n e es (bytes_eq n e.0) all makes (λ m. all_with f n es (second_true (named_table e) (list_all named_table es) all) m)

store_with : (f : Table → Table) (n : List ℕ) (s : Store) → is_store s ≡ true → MakesTable f (table_of s n) → is_store (with_table f n s) ≡ true
store_with f n s good makes =
    let named = list_all named_table s in let up = rises (slice_cmp nat_cmp) (keys_of s) in
    both_true (list_all named_table (with_table f n s)) (rises (slice_cmp nat_cmp) (keys_of (with_table f n s)))
    (all_with f n s (first_true named up good) makes) (ap (rises (slice_cmp nat_cmp)) (same_keys f n s) ∙ second_true named up good)

-- the change leaves the table that it is made of as it is
abbrev LeavesTable : (Table → Table) → Option Table → Type 0
LeavesTable f None = Unit {0}
LeavesTable f (Some t) = f t ≡ t

same_by : (f : Table → Table) (n : List ℕ) (e : List ℕ × Table) (es : Store) (b : Bool) → LeavesTable f (cond b (Some e.1) (table_of es n)) → (LeavesTable f (table_of es n) → with_table f n es ≡ es)
    → (if b then (e.0, f e.1) ∷ es else e ∷ with_table f n es) ≡ e ∷ es
same_by f n e es true leaves more = ap (λ (t : Table). (e.0, t) ∷ es) leaves
same_by f n e es false leaves more = ap (λ (l : Store). e ∷ l) (more leaves)

same_with : (f : Table → Table) (n : List ℕ) (s : Store) → LeavesTable f (table_of s n) → with_table f n s ≡ s
same_with f n [] leaves = refl
same_with f n (e ∷ es) leaves = same_by f n e es (bytes_eq n e.0) leaves (λ l. same_with f n es l)

-- ---- the store with other rows of a table

rows_make : (rows : List (List ℕ)) (t : Option Table) → may_be_rows (option_map (λ (u : Table). u.schema) t) rows ≡ true → MakesTable (with_rows rows) t
rows_make rows None may = tt
rows_make rows (Some t) may = λ good. with_rows_good t rows good may

pub rows_good : (s : Store) (n : List ℕ) (rows : List (List ℕ)) → is_store s ≡ true → may_be_rows (schema_of s n) rows ≡ true → is_store (with_table (with_rows rows) n s) ≡ true
rows_good s n rows good may = store_with (with_rows rows) n s good (rows_make rows (table_of s n) may)

rows_leave : (rows : List (List ℕ)) (t : Option Table) → GoodTable t → rows ≡ unwrap_or (option_map (λ (u : Table). values_of u.rows) t) [] → LeavesTable (with_rows rows) t
rows_leave rows None good is = tt
rows_leave rows (Some t) good is = with_rows_same t rows good is

-- with the rows that it has it is itself
pub rows_same : (s : Store) (n : List ℕ) (rows : List (List ℕ)) → is_store s ≡ true → rows ≡ rows_of s n → with_table (with_rows rows) n s ≡ s
rows_same s n rows good is =
    same_with (with_rows rows) n s (rows_leave rows (table_of s n) (good_table s n (first_true (list_all named_table s) (rises (slice_cmp nat_cmp) (keys_of s)) good)) is)

schema_by : (rows : List (List ℕ)) (b : Bool) (t : Option Table) → option_map (λ (u : Table). u.schema) t ≡ option_map (λ (u : Table). u.schema) (cond b (option_map (with_rows rows) t) t)
schema_by rows false t = refl
schema_by rows true None = refl
schema_by rows true (Some t) = refl

pub rows_schemas : (s : Store) (n : List ℕ) (rows : List (List ℕ)) (q : List ℕ) → schema_of s q ≡ schema_of (with_table (with_rows rows) n s) q
rows_schemas s n rows q = schema_by rows (bytes_eq q n) (table_of s q) ∙ sym (ap (option_map (λ (u : Table). u.schema)) (table_after (with_rows rows) q n s))

none_there : (rows : List (List ℕ)) → (length rows == 0) ≡ true → rows ≡ []
none_there [] h = refl
none_there (row ∷ rows) h = absurd (let none = eqb-true (length (row ∷ rows)) 0 h in omega (arith, none))

rows_by : (rows : List (List ℕ)) (t : Option Table) → may_be_rows (option_map (λ (u : Table). u.schema) t) rows ≡ true → rows ≡ unwrap_or (option_map (λ (u : Table). values_of u.rows) (option_map (with_rows rows) t)) []
rows_by rows None may = none_there rows may
rows_by rows (Some t) may = sym (values_are t.schema rows)

-- it has these rows
pub rows_there : (s : Store) (n : List ℕ) (rows : List (List ℕ)) → may_be_rows (schema_of s n) rows ≡ true → rows ≡ rows_of (with_table (with_rows rows) n s) n
rows_there s n rows may =
    rows_by rows (table_of s n) may
    ∙ sym (ap (λ (o : Option Table). unwrap_or (option_map (λ (u : Table). values_of u.rows) o) []) (table_after (with_rows rows) n n s ∙ indeed (bytes_eq n n) (option_map (with_rows rows) (table_of s n)) (table_of s n) (itself n)))
