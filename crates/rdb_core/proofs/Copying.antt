-- Tables that are copied one after another are the tables.
use Rattle.std.proofs.Common.{◌≡◌, ◌+◌, ℕ, List, [], ◌∷◌, ◌++◌, Bool, true, false, cond, if◌then◌else◌, refl, sym, ap, ◌∙◌, drop, Option, Some, None, IsTrue, is_some, append_assoc, option_map, Ordering, Greater}
use Rattle.std.specs.Prelude.{bytes_eq, unwrap_or}
use Rattle.std.specs.List.{list_all, slice_get}
use Rattle.std.specs.Ordering.{is_lt, match_ordering, nat_cmp, ordering_reverse}
use Rattle.std.specs.Cmp.Lexicographic.{slice_cmp}
use Rattle.std.specs.Map.{keys_of, values_of}
use Rattle.std.specs.BTreeMap.{insert_entry}
use Rattle.std.proofs.lemmas.Cmp.{nat_list_cmp_total}
use Rattle.drda_words.specs.Order.{rises}
use Rattle.row_values.specs.Schema.{Schema, is_name}
use Rattle.row_values.specs.Row.{is_row}
use Rattle.row_values.specs.Key.{key_cmp, row_key}
use Rattle.row_values.proofs.ReadSteps.{drop_at}
use Rattle.row_values.proofs.ValueLaws.{both_true, first_true, second_true}
use Rattle.tables.specs.Change.{put}
use Rattle.tables.specs.Tables.{Store, Table, apply, put_row, rows_of, table_of, with_table}
use Rattle.tables.specs.View.{is_entry, is_store, is_table}
use Rattle.tables.proofs.Changes.{names_apart}
use Rattle.tables.proofs.Finding.{itself, same_bytes, told_apart}
use Rattle.tables.proofs.Keeping.{before_all, less_is, named_table, parts}
use Rattle.paged_tables.specs.Stored.{Stored, table_in}
use Rattle.paged_tables.specs.TablesByName.{Tables, created_of, store_of}
use Rattle.rdb_core.specs.Copied.{with_rows, with_table_of}

-- ---- rows

-- one row more is put
pub rows_next : (name row : List ℕ) (rows : List (List ℕ)) (n m : ℕ) (now next start : Store) → slice_get rows n ≡ Some row → m ≡ n + 1 → now ≡ with_rows name (drop m rows) start → next ≡ apply (put name row) now
    → next ≡ with_rows name (drop n rows) start
rows_next name row rows n m now next start at one is made =
    made ∙ ap (apply (put name row)) (is ∙ ap (λ (k : ℕ). with_rows name (drop k rows) start) one)
    ∙ ap (λ (l : List (List ℕ)). with_rows name l start) (sym (drop_at rows n row at))

insert_first : (R : List ℕ → List ℕ → Ordering) (k v : List ℕ) (es : List (List ℕ × List ℕ)) → before_all R k (keys_of es) ≡ true → insert_entry R es k v ≡ (k, v) ∷ es
insert_first R k v [] h = refl
insert_first R k v (e ∷ es) h =
    ap (λ (o : Ordering). match_ordering o ((k, v) ∷ e ∷ es) ((e.0, v) ∷ es) (e ∷ insert_entry R es k v)) (less_is (R k e.0) (first_true (is_lt (R k e.0)) (before_all R k (keys_of es)) h))

-- a row that is put in front of those with greater keys
put_first : (schema : Schema) (e : List ℕ × List ℕ) (es : List (List ℕ × List ℕ)) → is_entry schema e ≡ true → before_all (key_cmp schema) e.0 (keys_of es) ≡ true
    → put_row e.1 (record { schema = schema; rows = es }) ≡ record { schema = schema; rows = e ∷ es }
put_first schema e es good before =
    let key : e.0 ≡ row_key schema e.1 = same_bytes e.0 (row_key schema e.1) (second_true (is_row schema e.1) (bytes_eq e.0 (row_key schema e.1)) good) in
    let old : Table = record { schema = schema; rows = es } in
    ap (λ (b : Bool). if b then record { schema = schema; rows = insert_entry (key_cmp schema) es (row_key schema e.1) e.1 } else old) (first_true (is_row schema e.1) (bytes_eq e.0 (row_key schema e.1)) good)
    ∙ ap (λ (k : List ℕ). record { schema = schema; rows = insert_entry (key_cmp schema) es k e.1 }) (sym key)
    ∙ ap (λ (rows : List (List ℕ × List ℕ)). record { schema = schema; rows = rows }) (insert_first (key_cmp schema) e.0 e.1 es before)

-- ---- a table behind those whose names come before

abbrev comes_last : List ℕ → Store → Bool
comes_last name s = list_all (λ (e : List ℕ × Table). is_lt (slice_cmp nat_cmp e.0 name)) s

after : (a b : List ℕ) → is_lt (slice_cmp nat_cmp a b) ≡ true → slice_cmp nat_cmp b a ≡ Greater
after a b h = nat_list_cmp_total.antisymm b a ∙ ap ordering_reverse (less_is (slice_cmp nat_cmp a b) h)

apart : (a b : List ℕ) → is_lt (slice_cmp nat_cmp a b) ≡ true → bytes_eq b a ≡ false
apart a b h = told_apart (slice_cmp nat_cmp) names_apart b a Greater (after a b h) (λ same. cc)

insert_last : (name : List ℕ) (t : Table) (s : Store) → comes_last name s ≡ true → insert_entry (slice_cmp nat_cmp) s name t ≡ s ++ (name, t) ∷ []
insert_last name t [] h = refl
insert_last name t (e ∷ es) h =
    ap (λ (o : Ordering). match_ordering o ((name, t) ∷ e ∷ es) ((e.0, t) ∷ es) (e ∷ insert_entry (slice_cmp nat_cmp) es name t)) (after e.0 name (first_true (is_lt (slice_cmp nat_cmp e.0 name)) (comes_last name es) h))
    ∙ ap (λ (s : Store). e ∷ s) (insert_last name t es (second_true (is_lt (slice_cmp nat_cmp e.0 name)) (comes_last name es) h))

not_there : (name : List ℕ) (s : Store) → comes_last name s ≡ true → table_of s name ≡ None
not_there name [] h = refl
not_there name (e ∷ es) h =
    ap (λ (b : Bool). cond b (Some e.1) (table_of es name)) (apart e.0 name (first_true (is_lt (slice_cmp nat_cmp e.0 name)) (comes_last name es) h))
    ∙ not_there name es (second_true (is_lt (slice_cmp nat_cmp e.0 name)) (comes_last name es) h)

last_changed : (f : Table → Table) (name : List ℕ) (t : Table) (s : Store) → comes_last name s ≡ true → with_table f name (s ++ (name, t) ∷ []) ≡ s ++ (name, f t) ∷ []
last_changed f name t [] h = ap (λ (b : Bool). if b then (name, f t) ∷ [] else (name, t) ∷ []) (itself name)
last_changed f name t (e ∷ es) h =
    let more : Store = es ++ (name, t) ∷ [] in
    ap (λ (b : Bool). if b then (e.0, f e.1) ∷ more else e ∷ with_table f name more) (apart e.0 name (first_true (is_lt (slice_cmp nat_cmp e.0 name)) (comes_last name es) h))
    ∙ ap (λ (s : Store). e ∷ s) (last_changed f name t es (second_true (is_lt (slice_cmp nat_cmp e.0 name)) (comes_last name es) h))

rows_made : (name : List ℕ) (schema : Schema) (rows : List (List ℕ × List ℕ)) (s : Store) → comes_last name s ≡ true → list_all (is_entry schema) rows ≡ true → rises (key_cmp schema) (keys_of rows) ≡ true
    → with_rows name (values_of rows) (s ++ (name, record { schema = schema; rows = [] }) ∷ []) ≡ s ++ (name, record { schema = schema; rows = rows }) ∷ []
rows_made name schema [] s last all up = refl
rows_made name schema (e ∷ es) s last all up =
    ap (with_table (put_row e.1) name) (rows_made name schema es s last (second_true (is_entry schema e) (list_all (is_entry schema) es) all) (second_true (before_all (key_cmp schema) e.0 (keys_of es)) (rises (key_cmp schema) (keys_of es)) up))
    ∙ last_changed (put_row e.1) name (record { schema = schema; rows = es }) s last
    ∙ ap (λ (t : Table). s ++ (name, t) ∷ []) (put_first schema e es (first_true (is_entry schema e) (list_all (is_entry schema) es) all) (first_true (before_all (key_cmp schema) e.0 (keys_of es)) (rises (key_cmp schema) (keys_of es)) up))

-- a table whose name comes last is added as it is
one_more : (name : List ℕ) (t : Table) (s : Store) → comes_last name s ≡ true → is_table t ≡ true → with_table_of name t.schema (values_of t.rows) s ≡ s ++ (name, t) ∷ []
one_more name t s last good =
    let fresh : Table = record { schema = t.schema; rows = [] } in
    let p = parts t good in
    ap (λ (o : Option Table). with_rows name (values_of t.rows) (if is_some o then s else insert_entry (slice_cmp nat_cmp) s name fresh)) (not_there name s last)
    ∙ ap (with_rows name (values_of t.rows)) (insert_last name fresh s last)
    ∙ rows_made name t.schema t.rows s last p.1 p.2

-- ---- in a store

all_middle : {A : Type 0} (p : A → Bool) (xs : List A) (y : A) (ys : List A) → list_all p (xs ++ y ∷ ys) ≡ true → p y ≡ true
all_middle p [] y ys h = first_true (p y) (list_all p ys) h
all_middle p (x ∷ xs) y ys h = all_middle p xs y ys (second_true (p x) (list_all p (xs ++ y ∷ ys)) h)

before_middle : (k : List ℕ) (ds : Store) (e : List ℕ × Table) (es : Store) → before_all (slice_cmp nat_cmp) k (keys_of (ds ++ e ∷ es)) ≡ true → is_lt (slice_cmp nat_cmp k e.0) ≡ true
before_middle k [] e es h = first_true (is_lt (slice_cmp nat_cmp k e.0)) (before_all (slice_cmp nat_cmp) k (keys_of es)) h
before_middle k (d ∷ ds) e es h = before_middle k ds e es (second_true (is_lt (slice_cmp nat_cmp k d.0)) (before_all (slice_cmp nat_cmp) k (keys_of (ds ++ e ∷ es))) h)

last_of : (ds : Store) (e : List ℕ × Table) (es : Store) → rises (slice_cmp nat_cmp) (keys_of (ds ++ e ∷ es)) ≡ true → comes_last e.0 ds ≡ true
last_of [] e es h = refl
last_of (d ∷ ds) e es h =
    both_true (is_lt (slice_cmp nat_cmp d.0 e.0)) (comes_last e.0 ds)
    (before_middle d.0 ds e es (first_true (before_all (slice_cmp nat_cmp) d.0 (keys_of (ds ++ e ∷ es))) (rises (slice_cmp nat_cmp) (keys_of (ds ++ e ∷ es))) h))
    (last_of ds e es (second_true (before_all (slice_cmp nat_cmp) d.0 (keys_of (ds ++ e ∷ es))) (rises (slice_cmp nat_cmp) (keys_of (ds ++ e ∷ es))) h))

named_here : (done : Store) (e : List ℕ × Table) (left : Store) → is_store (done ++ e ∷ left) ≡ true → named_table e ≡ true
named_here done e left good = all_middle named_table done e left (first_true (list_all named_table (done ++ e ∷ left)) (rises (slice_cmp nat_cmp) (keys_of (done ++ e ∷ left))) good)

last_here : (done : Store) (e : List ℕ × Table) (left : Store) → is_store (done ++ e ∷ left) ≡ true → comes_last e.0 done ≡ true
last_here done e left good = last_of done e left (second_true (list_all named_table (done ++ e ∷ left)) (rises (slice_cmp nat_cmp) (keys_of (done ++ e ∷ left))) good)

-- a table behind others of smaller names is found
found_behind : (done : Store) (e : List ℕ × Table) (left : Store) → comes_last e.0 done ≡ true → table_of (done ++ e ∷ left) e.0 ≡ Some e.1
found_behind [] e left last = ap (λ (b : Bool). cond b (Some e.1) (table_of left e.0)) (itself e.0)
found_behind (d ∷ done) e left last =
    ap (λ (b : Bool). cond b (Some d.1) (table_of (done ++ e ∷ left) e.0)) (apart d.0 e.0 (first_true (is_lt (slice_cmp nat_cmp d.0 e.0)) (comes_last e.0 done) last))
    ∙ found_behind done e left (second_true (is_lt (slice_cmp nat_cmp d.0 e.0)) (comes_last e.0 done) last)

-- ---- one table after another

-- tables with their rows, as a store has them
abbrev pub entries : Tables → Store
entries [] = []
entries (e ∷ es) = (e.0, table_in e.1) ∷ entries es

by_created : (b : Bool) (e : List ℕ × Stored) (es : Tables) → e.1.is_created ≡ b → entries (created_of es) ≡ store_of es → entries (created_of (e ∷ es)) ≡ store_of (e ∷ es)
by_created true e es is all = rw is (ap (λ (s : Store). (e.0, table_in e.1) ∷ s) all)
by_created false e es is all = rw is all

-- the tables that are created are the store
pub created_store : (tables : Tables) → entries (created_of tables) ≡ store_of tables
created_store [] = refl
created_store (e ∷ es) = by_created e.1.is_created e es refl (created_store es)

-- these tables are left of a store, and the others are copied where it is told what is read
pub record IsCopying (store : Store) (left : Tables) (is_told : Bool) (view : Store) : Type 0 where
  pub done : Store
  pub whole : done ++ entries left ≡ store
  pub copied : IsTrue is_told → view ≡ done

pub none_copied : (store : Store) (tables : Tables) (is_told : Bool) (left : Tables) (view : Store) → store ≡ store_of tables → left ≡ created_of tables → view ≡ [] → IsCopying store left is_told view
none_copied store tables is_told left view same all none = record { done = []; whole = ap entries all ∙ created_store tables ∙ sym same; copied = λ told. none }

module _ (store : Store) (good : is_store store ≡ true) (e : List ℕ × Stored) (left : Tables) (is_told : Bool) (view : Store) (so : IsCopying store (e ∷ left) is_told view) where
  abbrev first : List ℕ × Table
  first = (e.0, table_in e.1)

  whole_good : is_store (so.done ++ first ∷ entries left) ≡ true
  whole_good = ap is_store so.whole ∙ good

  pub its_name : is_name e.0 ≡ true
  its_name = first_true (is_name e.0) (is_table (table_in e.1)) (named_here so.done first (entries left) whole_good)

  its_rows : rows_of store e.0 ≡ values_of (table_in e.1).rows
  its_rows =
      ap (λ (s : Store). rows_of s e.0) (sym so.whole)
      ∙ ap (λ (o : Option Table). unwrap_or (option_map (λ (t : Table). values_of t.rows) o) []) (found_behind so.done first (entries left) (last_here so.done first (entries left) whole_good))

  pub one_copied : (name : List ℕ) (schema : Schema) (rows : List (List ℕ)) (new : Store) → name ≡ e.0 → schema ≡ e.1.schema → (IsTrue is_told → rows ≡ rows_of store name) → new ≡ with_table_of name schema rows view
      → IsCopying store left is_told new
  one_copied name schema rows new is same read made =
      let its : IsTrue is_told → rows ≡ values_of (table_in e.1).rows = λ told. read told ∙ ap (rows_of store) is ∙ its_rows in
      record {
        done = so.done ++ first ∷ [];
        whole = append_assoc so.done (first ∷ []) (entries left) ∙ so.whole;
        copied = λ told.
            made
            ∙ (λ j. with_table_of (is j) (same j) (its told j) (so.copied told j))
            ∙ one_more e.0 (table_in e.1) so.done (last_here so.done first (entries left) whole_good) (second_true (is_name e.0) (is_table (table_in e.1)) (named_here so.done first (entries left) whole_good));
      }
