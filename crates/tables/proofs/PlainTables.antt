-- Tables in memory, and what is done to them.
use Rattle.std.proofs.Common.{◌≡◌, ◌≢◌, ℕ, ◌+◌, ◌<◌, zero, suc, List, [], ◌∷◌, Bool, true, false, true≢false, cond, if◌then◌else◌, refl, sym, ap, subst, ◌∙◌, get_or, length, map, set, Option, Some, None, option_map, Result, Ok, Err, OnOk, OnErr, arith, Equal}
use Rattle.std.specs.Prelude.{bytes_eq, find, is_some, not, position, ◌&&◌}
use Rattle.std.specs.List.{insert, list_all, list_any, position_or_len, slice_get}
use Rattle.std.specs.String.{string_bytes}
use Rattle.std.specs.Arc.{arc_value}
use Rattle.std.specs.BTreeMap.{insert_entry}
use Rattle.std.specs.Ordering.{nat_cmp}
use Rattle.std.specs.Map.{keys_of, lookup, values_of}
use Rattle.std.proofs.lemmas.Option.{slice_get-map, slice_get_read}
use Rattle.std.specs.Cmp.Lexicographic.{slice_cmp}
use Rattle.tables.specs.declared.plain_table.PlainRow.{PlainRow}
use Rattle.tables.specs.declared.plain_table.PlainTable.{PlainTable}
use Rattle.row_values.specs.Value.{Value}
use Rattle.row_values.specs.Column.{Column, fits}
use Rattle.row_values.specs.Schema.{Schema, is_name, is_schema}
use Rattle.row_values.specs.Row.{all_fit, typed_value_at, is_row, value_at, values_at, values_in}
use Rattle.row_values.specs.Key.{is_key, key_cmp, row_key}
use Rattle.tables.specs.Change.{Change, create}
use Rattle.tables.specs.Tables.{Store, Table, apply, table_of, with_table}
use Rattle.drda_words.specs.Order.{rises}
use Rattle.tables.specs.View.{is_entry, is_sound, is_store, is_table}
use Rattle.tables.specs.Plain.{entry_of, has_key, is_named, is_of_key, named_table, rows_before, rows_in, store_of, table_in, tables_before}
use Rattle.row_values.proofs.ValueLaws.{both_true, chained, first_true, kept, mapped, second_true}
use Rattle.row_values.proofs.RowColumns.{row_values_at}
use Rattle.row_values.proofs.RowKeys.{row_key_good}
use Rattle.tables.proofs.Finding.{itself, same_bytes}
use Rattle.tables.proofs.Changes.{names_apart}
use Rattle.row_values.proofs.KeyOrder.{key_exact, key_itself}
use Rattle.row_values.proofs.Keys.{all_at}
use Rattle.tables.proofs.Keeping.{apply_keeps}
use Rattle.tables.proofs.Places.{any_found, first_place, found_nowhere, found_there, item_there, lookup_found, none_passes, put_new, put_same, same_shown}

-- ---- the table of a name

-- the place that was found in a list is one in the list itself
pub placed : (name : List ℕ) (lent ts : List PlainTable) (o r : Option ℕ) → lent ≡ ts → o ≡ position (is_named name) lent → o ≡ r → position (is_named name) ts ≡ r
placed name lent ts o r same at is = sym (at ∙ ap (position (is_named name)) same) ∙ is

pub table_there : (name : List ℕ) (ts : List PlainTable) (i : ℕ) (t : PlainTable) → position (is_named name) ts ≡ Some i → t ≡ get_or ts i t → table_of (store_of ts) name ≡ Some (table_in t)
table_there name ts i t is at = lookup_found named_table (bytes_eq name) ts ∙ ap (option_map table_in) (found_there (is_named name) ts i t is (item_there (is_named name) ts i t is at))

pub table_nowhere : (name : List ℕ) (ts : List PlainTable) → position (is_named name) ts ≡ None → table_of (store_of ts) name ≡ None
table_nowhere name ts is = lookup_found named_table (bytes_eq name) ts ∙ ap (option_map table_in) (found_nowhere (is_named name) ts is)

set_step : (f : Table → Table) (x t new : PlainTable) (xs : List PlainTable) (n : ℕ) (rest : Store) (b : Bool) → named_table new ≡ (string_bytes t.name, f (table_in t)) → slice_get (x ∷ xs) (cond (not b) (1 + n) 0) ≡ Some t → (slice_get xs n ≡ Some t → store_of (set xs n new) ≡ rest)
    → store_of (set (x ∷ xs) (cond (not b) (1 + n) 0) new) ≡ (if b then (string_bytes x.name, f (table_in x)) ∷ store_of xs else named_table x ∷ rest)
set_step f x t new xs n rest true made at more = let same : x ≡ t = cc in ap (λ e. e ∷ store_of xs) (made ∙ ap (λ (u : PlainTable). (string_bytes u.name, f (table_in u))) (sym same))
set_step f x t new xs n rest false made at more =
    let next : 1 + n ≡ suc n = omega arith in
    ap (λ i. store_of (set (x ∷ xs) i new)) next ∙ ap (λ s. named_table x ∷ s) (more (sym (ap (slice_get (x ∷ xs)) next) ∙ at))

set_first : (f : Table → Table) (name : List ℕ) (ts : List PlainTable) (t new : PlainTable) → named_table new ≡ (string_bytes t.name, f (table_in t)) → slice_get ts (position_or_len (is_named name) ts) ≡ Some t
    → store_of (set ts (position_or_len (is_named name) ts) new) ≡ with_table f name (store_of ts)
set_first f name [] t new made at = absurd cc
set_first f name (x ∷ xs) t new made at =
    set_step f x t new xs (position_or_len (is_named name) xs) (with_table f name (store_of xs)) (is_named name x) made at (λ there. set_first f name xs t new made there)

-- the table of a name is changed in its place
pub table_changed : (f : Table → Table) (name : List ℕ) (ts : List PlainTable) (i : ℕ) (t new : PlainTable) → position (is_named name) ts ≡ Some i → t ≡ get_or ts i t → string_bytes new.name ≡ string_bytes t.name → table_in new ≡ f (table_in t)
    → store_of (set ts i new) ≡ with_table f name (store_of ts)
table_changed f name ts i t new is at named made =
    let here = first_place (is_named name) ts i is in
    let there = item_there (is_named name) ts i t is at in
    let one : named_table new ≡ (string_bytes t.name, f (table_in t)) = ap (λ n. (n, table_in new)) named ∙ ap (λ u. (string_bytes t.name, u)) made in
    sym (ap (λ n. store_of (set ts n new)) here) ∙ set_first f name ts t new one (ap (slice_get ts) here ∙ there)

-- a table in place of an equal one changes nothing
pub table_kept : (name : List ℕ) (ts : List PlainTable) (i : ℕ) (t new : PlainTable) → position (is_named name) ts ≡ Some i → t ≡ get_or ts i t → string_bytes new.name ≡ string_bytes t.name → table_in new ≡ table_in t → store_of (set ts i new) ≡ store_of ts
table_kept name ts i t new is at named same =
    same_shown named_table ts i t new (item_there (is_named name) ts i t is at) (ap (λ n. (n, table_in new)) named ∙ ap (λ u. (string_bytes t.name, u)) same)

none_step : (f : Table → Table) (x : PlainTable) (more : Option PlainTable) (s rest : Store) (b : Bool) → cond b (Some x) more ≡ None → (more ≡ None → s ≡ rest) → named_table x ∷ s ≡ (if b then (string_bytes x.name, f (table_in x)) ∷ s else named_table x ∷ rest)
none_step f x more s rest true h same = absurd cc
none_step f x more s rest false h same = ap (λ r. named_table x ∷ r) (same h)

none_changed : (f : Table → Table) (name : List ℕ) (ts : List PlainTable) → find (is_named name) ts ≡ None → store_of ts ≡ with_table f name (store_of ts)
none_changed f name [] h = refl
none_changed f name (x ∷ xs) h = none_step f x (find (is_named name) xs) (store_of xs) (with_table f name (store_of xs)) (is_named name x) h (λ more. none_changed f name xs more)

-- without a table of the name nothing changes
pub no_table_changed : (f : Table → Table) (name : List ℕ) (ts : List PlainTable) → position (is_named name) ts ≡ None → store_of ts ≡ with_table f name (store_of ts)
no_table_changed f name ts is = none_changed f name ts (found_nowhere (is_named name) ts is)

-- the tables of a store are tables
pub table_good : (name : List ℕ) (ts : List PlainTable) (i : ℕ) (t : PlainTable) → position (is_named name) ts ≡ Some i → t ≡ get_or ts i t → is_store (store_of ts) ≡ true → is_table (table_in t) ≡ true
table_good name ts i t is at good =
    let all = first_true (list_all (λ (e : List ℕ × Table). is_name e.0 && is_table e.1) (store_of ts)) (rises (slice_cmp nat_cmp) (keys_of (store_of ts))) good in
    let there = slice_get-map named_table ts i ∙ ap (option_map named_table) (item_there (is_named name) ts i t is at) in
    second_true (is_name (string_bytes t.name)) (is_table (table_in t)) (all_at (λ (e : List ℕ × Table). is_name e.0 && is_table e.1) (store_of ts) i (named_table t) all there)

-- ---- creation

chosen_first : {A : Type 0} (b : Bool) (x y : A) → true ≡ b → x ≡ (if b then x else y)
chosen_first true x y h = refl
chosen_first false x y h = absurd cc

chosen_second : {A : Type 0} (b : Bool) (x y z : A) → false ≡ b → z ≡ y → z ≡ (if b then x else y)
chosen_second true x y z h same = absurd cc
chosen_second false x y z h same = same

-- a table that is there is not created again
pub not_created : (name : List ℕ) (schema : Schema) (lent ts : List PlainTable) → lent ≡ ts → true ≡ list_any (is_named name) lent → store_of ts ≡ apply (create name schema) (store_of ts)
not_created name schema lent ts same known =
    chosen_first (is_some (table_of (store_of ts) name)) (store_of ts) (insert_entry (slice_cmp nat_cmp) (store_of ts) name (record { schema = schema; rows = [] }))
    (known ∙ ap (list_any (is_named name)) same ∙ any_found named_table (bytes_eq name) ts)

other_name : (name : List ℕ) (t : PlainTable) → is_named name t ≡ false → slice_cmp nat_cmp name (string_bytes t.name) ≢ Equal
other_name name t other tie = true≢false (sym (ap (bytes_eq name) (sym (names_apart.exact name (string_bytes t.name) tie)) ∙ itself name) ∙ other)

abbrev named_with : List ℕ → Schema → List (List ℕ × List ℕ) → List ℕ × Table
named_with name schema rows = (name, record { schema = schema; rows = rows })

-- a table of a new name goes to its place
pub created : (name : List ℕ) (lent also ts : List PlainTable) (new : PlainTable) (place : ℕ) → lent ≡ ts → also ≡ ts → false ≡ list_any (is_named name) lent → place ≡ tables_before name also → string_bytes new.name ≡ name → rows_in new.rows.items ≡ []
    → store_of (insert ts place new) ≡ apply (create name (arc_value new.schema)) (store_of ts)
created name lent also ts new place same same_too unknown at named empty =
    let fresh : Table = record { schema = arc_value new.schema; rows = [] } in
    let none : list_any (is_named name) ts ≡ false = sym (unknown ∙ ap (list_any (is_named name)) same) in
    let one : named_table new ≡ (name, fresh) = ap (λ n. (n, table_in new)) named ∙ ap (named_with name (arc_value new.schema)) empty in
    chosen_second (is_some (table_of (store_of ts) name)) (store_of ts) (insert_entry (slice_cmp nat_cmp) (store_of ts) name fresh) (store_of (insert ts place new))
    (sym none ∙ any_found named_table (bytes_eq name) ts)
    (ap (λ i. store_of (insert ts i new)) (at ∙ ap (tables_before name) same_too)
    ∙ put_new (slice_cmp nat_cmp) named_table name fresh new ts one (λ t there. other_name name t (none_passes (is_named name) ts (tables_before name ts) t none there)))

-- ---- rows

of_key : (key : List ℕ) (o : Option PlainRow) (r : PlainRow) → true ≡ is_of_key key o → o ≡ Some r → key ≡ r.key.items
of_key key o r h is = same_bytes key r.key.items (sym (ap (is_of_key key) is) ∙ sym h)

pub of_key_within : (key : List ℕ) (rows : List PlainRow) (place : ℕ) → true ≡ is_of_key key (slice_get rows place) → place < length rows
of_key_within key [] place h = absurd cc
of_key_within key (r ∷ rs) zero h = omega arith
of_key_within key (r ∷ rs) (suc place) h = let lt = of_key_within key rs place h in omega arith

-- a row of a key that is there takes its place
pub row_replaced : (schema : Schema) (key row : List ℕ) (lent also rows : List PlainRow) (place : ℕ) (old new : PlainRow) → lent ≡ rows → also ≡ rows → place ≡ rows_before schema key lent → true ≡ is_of_key key (slice_get also place) → old ≡ get_or rows place old → entry_of new ≡ (old.key.items, row)
    → rows_in (set rows place new) ≡ insert_entry (key_cmp schema) (rows_in rows) key row
row_replaced schema key row lent also rows place old new same same_too at here is made =
    let here' : true ≡ is_of_key key (slice_get rows place) = here ∙ ap (λ (l : List PlainRow). is_of_key key (slice_get l place)) same_too in
    let there = slice_get_read rows (length rows) place old refl (of_key_within key rows place here') is in
    let at' : place ≡ rows_before schema key rows = at ∙ ap (rows_before schema key) same in
    let tie : key_cmp schema key old.key.items ≡ Equal = ap (key_cmp schema key) (sym (of_key key (slice_get rows place) old here' there)) ∙ key_itself schema key in
    ap (λ i. rows_in (set rows i new)) at' ∙ put_same (key_cmp schema) entry_of key row new old rows made tie (sym (ap (slice_get rows) at') ∙ there)

other_key : (schema : Schema) (key : List ℕ) (o : Option PlainRow) (r : PlainRow) → false ≡ is_of_key key o → o ≡ Some r → key_cmp schema key r.key.items ≢ Equal
other_key schema key o r h is tie = true≢false (sym (ap (bytes_eq key) (sym (key_exact schema key r.key.items tie)) ∙ itself key) ∙ sym (ap (is_of_key key) is) ∙ sym h)

-- a row of a new key goes to its place
pub row_added : (schema : Schema) (key row : List ℕ) (lent also rows : List PlainRow) (place : ℕ) (new : PlainRow) → lent ≡ rows → also ≡ rows → place ≡ rows_before schema key lent → false ≡ is_of_key key (slice_get also place) → entry_of new ≡ (key, row)
    → rows_in (insert rows place new) ≡ insert_entry (key_cmp schema) (rows_in rows) key row
row_added schema key row lent also rows place new same same_too at here made =
    let at' : place ≡ rows_before schema key rows = at ∙ ap (rows_before schema key) same in
    let here' : false ≡ is_of_key key (slice_get rows (rows_before schema key rows)) = here ∙ ap (λ (l : List PlainRow). is_of_key key (slice_get l place)) same_too ∙ ap (λ i. is_of_key key (slice_get rows i)) at' in
    ap (λ i. rows_in (insert rows i new)) at' ∙ put_new (key_cmp schema) entry_of key row new rows made (λ r there. other_key schema key (slice_get rows (rows_before schema key rows)) r here' there)

-- ---- what is read

pub row_found : (key : List ℕ) (lent rows : List PlainRow) (o : Option PlainRow) (r : PlainRow) (bytes : List ℕ) → lent ≡ rows → o ≡ find (has_key key) lent → o ≡ Some r → bytes ≡ r.row.items → Some bytes ≡ lookup (bytes_eq key) (rows_in rows)
row_found key lent rows o r bytes same at is read =
    ap Some read ∙ ap (option_map (λ (y : PlainRow). y.row.items)) (sym is ∙ at ∙ ap (find (has_key key)) same) ∙ sym (lookup_found entry_of (bytes_eq key) rows)

pub row_not_found : (key : List ℕ) (lent rows : List PlainRow) (o : Option PlainRow) → lent ≡ rows → o ≡ find (has_key key) lent → o ≡ None → None ≡ lookup (bytes_eq key) (rows_in rows)
row_not_found key lent rows o same at is =
    ap (option_map (λ (y : PlainRow). y.row.items)) (sym is ∙ at ∙ ap (find (has_key key)) same) ∙ sym (lookup_found entry_of (bytes_eq key) rows)

pub values_in_rows : (rows : List PlainRow) → map (λ r. r.row.items) rows ≡ values_of (rows_in rows)
values_in_rows [] = refl
values_in_rows (r ∷ rs) = ap (λ vs. r.row.items ∷ vs) (values_in_rows rs)

-- ---- results

pub on_ok : {A E : Type 0} {P Q : Type 0} (r : Result A E) → (P → Q) → OnOk r P → OnOk r Q
on_ok (Ok x) f h = f h
on_ok (Err e) f h = tt

pub on_err : {A E : Type 0} {P Q : Type 0} (r : Result A E) → (P → Q) → OnErr r P → OnErr r Q
on_err (Ok x) f h = tt
on_err (Err e) f h = f h

-- a change that is made or not keeps a store one
pub still_store : {A E : Type 0} (r : Result A E) (d : Change) (old new : Store) → OnOk r (new ≡ apply d old) → OnErr r (new ≡ old) → is_sound d ≡ true → is_store old ≡ true → is_store new ≡ true
still_store (Ok x) d old new made kept is_one good = ap is_store made ∙ apply_keeps d old is_one good
still_store (Err e) d old new made kept is_one good = ap is_store kept ∙ good

-- ---- keys

value_fits : (column : Column) (bytes : List ℕ) (x : Value × List ℕ) → value_at column bytes ≡ Some x → fits column x.0 ≡ true
unfolding value_at
value_fits column bytes x h =
    let m = chained (λ (y : Value × List ℕ). if fits column y.0 then Some y else None) (typed_value_at column.kind bytes) x h in
    let k = kept (fits column m.0.0) m.0 x m.2 in
    ap (λ (y : Value × List ℕ). fits column y.0) (sym k.1) ∙ k.0

-- values that are read fit their columns
values_fit : (columns : List Column) (bytes : List ℕ) (values : List Value) → values_at columns bytes ≡ Some values → all_fit columns values ≡ true
values_fit [] [] values h = let none : [] ≡ values = cc in subst (λ (vs : List Value). all_fit [] vs ≡ true) none refl
values_fit [] (byte ∷ bytes) values h = absurd cc
values_fit (column ∷ columns) bytes values h =
    let m = chained (λ (x : Value × List ℕ). option_map (λ vs. x.0 ∷ vs) (values_at columns x.1)) (value_at column bytes) values h in
    let t = mapped (λ (vs : List Value). m.0.0 ∷ vs) (values_at columns m.0.1) values m.2 in
    subst (λ (vs : List Value). all_fit (column ∷ columns) vs ≡ true) t.2
    (both_true (fits column m.0.0) (all_fit columns t.0) (value_fits column bytes m.0 m.1) (values_fit columns m.0.1 t.0 t.1))

-- the key of a row is one
key_of_row : (schema : Schema) (key row : List ℕ) → is_schema schema ≡ true → is_entry schema (key, row) ≡ true → is_key schema key ≡ true
key_of_row schema key row good h =
    let is = first_true (is_row schema row) (bytes_eq key (row_key schema row)) h in
    let same = same_bytes key (row_key schema row) (second_true (is_row schema row) (bytes_eq key (row_key schema row)) h) in
    ap (is_key schema) same ∙ row_key_good schema row good (values_fit schema.columns row (values_in schema row) (row_values_at schema row is))

-- the keys of a table are keys
pub keys_are : (schema : Schema) (rows : List PlainRow) → is_schema schema ≡ true → list_all (is_entry schema) (rows_in rows) ≡ true → list_all (λ r. is_key schema r.key.items) rows ≡ true
keys_are schema [] good h = refl
keys_are schema (r ∷ rs) good h =
    both_true (is_key schema r.key.items) (list_all (λ s. is_key schema s.key.items) rs)
    (key_of_row schema r.key.items r.row.items good (first_true (is_entry schema (entry_of r)) (list_all (is_entry schema) (rows_in rs)) h))
    (keys_are schema rs good (second_true (is_entry schema (entry_of r)) (list_all (is_entry schema) (rows_in rs)) h))
