-- What is found in a store.
use Rattle.std.proofs.Common.{◌≡◌, ℕ, zero, suc, List, [], ◌∷◌, Bool, true, false, cond, refl, sym, ap, subst, ◌∙◌, length, map, Option, Some, None, option_map}
use Rattle.std.proofs.Common.{Ordering, Less, Equal, Greater}
use Rattle.std.specs.Prelude.{bytes_eq, is_some, unwrap_or}
use Rattle.std.specs.Option.{option_and_then}
use Rattle.std.specs.List.{list_all, slice_get}
use Rattle.std.specs.Map.{keys_of, lookup, values_of}
use Rattle.std.specs.Ordering.{is_lt, match_ordering, nat_cmp}
use Rattle.std.specs.BTreeMap.{insert_entry}
use Rattle.std.specs.Cmp.Lexicographic.{nat_list_cmp_total, slice_cmp}
use Rattle.std.proofs.lemmas.List.{length-map}
use Rattle.drda_words.specs.Order.{rises}
use Rattle.row_values.specs.Schema.{Schema}
use Rattle.row_values.specs.Row.{is_row}
use Rattle.row_values.specs.Key.{key_cmp, row_key}
use Rattle.row_values.proofs.ValueLaws.{first_true, second_true}
use Rattle.tables.specs.Change.{Change, create, put, remove}
use Rattle.tables.specs.Tables.{Store, Table, apply, is_row_at, put_row, remove_row, row_of, rows_of, schema_of, table_of}
use Rattle.tables.specs.View.{is_entry, is_store, is_table}
use Rattle.tables.specs.Laws.{IsAmong, ListsFound, names_after, with_name}
use Rattle.tables.proofs.Finding.{TellsApart, found_put, otherwise, same_bytes}
use Rattle.tables.proofs.Changes.{keys_apart, names_apart}
use Rattle.tables.proofs.Keeping.{before_all, less_is, named_table, parts, same_keys}
use Rattle.tables.proofs.Showing.{GoodTable, found_first, good_table, inside, lists_same, same_at}

all_tables : (s : Store) → is_store s ≡ true → list_all named_table s ≡ true
all_tables s h = first_true (list_all named_table s) (rises (slice_cmp nat_cmp) (keys_of s)) h

good_at : (o : Option Table) (t : Table) → GoodTable o → o ≡ Some t → is_table t ≡ true
good_at o t good is = subst GoodTable is good

pub tables_are_tables : (s : Store) (name : List ℕ) (t : Table) → is_store s ≡ true → table_of s name ≡ Some t → is_table t ≡ true
tables_are_tables s name t h is = good_at (table_of s name) t (good_table s name (all_tables s h)) is

-- ---- a row that is found

entry_step : {X : Type 0} (p : List ℕ × X → Bool) (k : List ℕ) (v : X) (e : List ℕ × X) (rest : Option X) (b : Bool) → bytes_eq k e.0 ≡ b → p e ≡ true → (rest ≡ Some v → p (k, v) ≡ true) → cond b (Some e.1) rest ≡ Some v → p (k, v) ≡ true
entry_step p k v e rest true is one more h =
    let keys : e.0 ≡ k = sym (same_bytes k e.0 is) in
    let values : e.1 ≡ v = inside e.1 v h in
    ap (λ (l : List ℕ). p (l, v)) (sym keys) ∙ ap (λ w. p (e.0, w)) (sym values) ∙ one
entry_step p k v e rest false is one more h = more h

-- what holds of all entries holds of the one that is found
entry_found : {X : Type 0} (p : List ℕ × X → Bool) (k : List ℕ) (v : X) (es : List (List ℕ × X)) → list_all p es ≡ true → lookup (bytes_eq k) es ≡ Some v → p (k, v) ≡ true
entry_found p k v [] all h = absurd cc
entry_found p k v (e ∷ es) all h =
    entry_step p k v e (lookup (bytes_eq k) es) (bytes_eq k e.0) refl (first_true (p e) (list_all p es) all) (entry_found p k v es (second_true (p e) (list_all p es) all)) h

row_by : (o : Option Table) (key row : List ℕ) → GoodTable o → option_and_then (λ (t : Table). lookup (bytes_eq key) t.rows) o ≡ Some row → is_row_at (option_map (λ (t : Table). t.schema) o) row key ≡ true
row_by None key row good h = absurd cc
row_by (Some t) key row good h = entry_found (is_entry t.schema) key row t.rows (parts t good).1 h

pub found_are_rows : (s : Store) (name key row : List ℕ) → is_store s ≡ true → row_of s name key ≡ Some row → is_row_at (schema_of s name) row key ≡ true
found_are_rows s name key row h is = row_by (table_of s name) key row (good_table s name (all_tables s h)) is

-- ---- the rows of a table

among_step : (k : List ℕ) (row : List ℕ) (e : List ℕ × List ℕ) (es : List (List ℕ × List ℕ)) (b : Bool) → (lookup (bytes_eq k) es ≡ Some row → IsAmong (values_of es) row) → cond b (Some e.1) (lookup (bytes_eq k) es) ≡ Some row → IsAmong (values_of (e ∷ es)) row
among_step k row e es true more h = (0, h)
among_step k row e es false more h = let r = more h in (suc r.0, r.1)

found_among : (k : List ℕ) (row : List ℕ) (es : List (List ℕ × List ℕ)) → lookup (bytes_eq k) es ≡ Some row → IsAmong (values_of es) row
found_among k row [] h = absurd cc
found_among k row (e ∷ es) h = among_step k row e es (bytes_eq k e.0) (found_among k row es) h

keys_are_of_rows : (schema : Schema) (es : List (List ℕ × List ℕ)) → list_all (is_entry schema) es ≡ true → keys_of es ≡ map (row_key schema) (values_of es)
keys_are_of_rows schema [] h = refl
keys_are_of_rows schema (e ∷ es) h =
    let one = first_true (is_entry schema e) (list_all (is_entry schema) es) h in
    ap (λ (k : List ℕ). k ∷ keys_of es) (same_bytes e.0 (row_key schema e.1) (second_true (is_row schema e.1) (bytes_eq e.0 (row_key schema e.1)) one))
    ∙ ap (λ (ks : List (List ℕ)). row_key schema e.1 ∷ ks) (keys_are_of_rows schema es (second_true (is_entry schema e) (list_all (is_entry schema) es) h))

apart_by : (R : List ℕ → List ℕ → Ordering) → TellsApart R → (d e : List ℕ) (b : Bool) → R d e ≡ Less → bytes_eq e d ≡ b → b ≡ false
apart_by R t d e true less is = let tie : R d e ≡ Equal = ap (R d) (same_bytes e d is) ∙ t.itself d in absurd (less_or_tie (R d e) less tie)
  where
    less_or_tie : (o : Ordering) → o ≡ Less → o ≡ Equal → ⊥
    less_or_tie Less p q = absurd cc
    less_or_tie Equal p q = absurd cc
    less_or_tie Greater p q = absurd cc
apart_by R t d e false less is = refl

before_there : (R : List ℕ → List ℕ → Ordering) (d : List ℕ) (es : List (List ℕ × List ℕ)) (i : ℕ) (k row : List ℕ) → before_all R d (keys_of es) ≡ true → slice_get es i ≡ Some (k, row) → R d k ≡ Less
before_there R d [] i k row h at = absurd cc
before_there R d (e ∷ es) zero k row h at =
    let same : e ≡ (k, row) = inside e (k, row) at in
    ap (λ (x : List ℕ × List ℕ). R d x.0) (sym same) ∙ less_is (R d e.0) (first_true (is_lt (R d e.0)) (before_all R d (keys_of es)) h)
before_there R d (e ∷ es) (suc i) k row h at = before_there R d es i k row (second_true (is_lt (R d e.0)) (before_all R d (keys_of es)) h) at

-- an entry of a list whose keys rise is found at its key
entry_there : (R : List ℕ → List ℕ → Ordering) → TellsApart R → (es : List (List ℕ × List ℕ)) (i : ℕ) (k row : List ℕ) → rises R (keys_of es) ≡ true → slice_get es i ≡ Some (k, row) → lookup (bytes_eq k) es ≡ Some row
entry_there R t [] i k row up at = absurd cc
entry_there R t (e ∷ es) zero k row up at =
    let same : e ≡ (k, row) = inside e (k, row) at in
    subst (λ (x : List ℕ × List ℕ). lookup (bytes_eq x.0) (e ∷ es) ≡ Some x.1) same (found_first e es)
entry_there R t (e ∷ es) (suc i) k row up at =
    let less = before_there R e.0 es i k row (first_true (before_all R e.0 (keys_of es)) (rises R (keys_of es)) up) at in
    otherwise (bytes_eq k e.0) (Some e.1) (lookup (bytes_eq k) es) (apart_by R t e.0 k (bytes_eq k e.0) less refl)
    ∙ entry_there R t es i k row (second_true (before_all R e.0 (keys_of es)) (rises R (keys_of es)) up) at

-- the entry of a row of a table
entry_of_row : (schema : Schema) (es : List (List ℕ × List ℕ)) (i : ℕ) (row : List ℕ) → list_all (is_entry schema) es ≡ true → slice_get (values_of es) i ≡ Some row → slice_get es i ≡ Some (row_key schema row, row)
entry_of_row schema [] i row all at = absurd cc
entry_of_row schema (e ∷ es) zero row all at =
    let same : e.1 ≡ row = inside e.1 row at in
    let one = first_true (is_entry schema e) (list_all (is_entry schema) es) all in
    let key = same_bytes e.0 (row_key schema e.1) (second_true (is_row schema e.1) (bytes_eq e.0 (row_key schema e.1)) one) in
    ap (λ (k : List ℕ). Some (k, e.1)) key ∙ ap (λ (r : List ℕ). Some (row_key schema r, r)) same
entry_of_row schema (e ∷ es) (suc i) row all at = entry_of_row schema es i row (second_true (is_entry schema e) (list_all (is_entry schema) es) all) at

abbrev listed_in : Option Table → List (List ℕ)
listed_in o = unwrap_or (option_map (λ (t : Table). values_of t.rows) o) []

all_by : (o : Option Table) (key row : List ℕ) → option_and_then (λ (t : Table). lookup (bytes_eq key) t.rows) o ≡ Some row → IsAmong (listed_in o) row
all_by None key row h = absurd cc
all_by (Some t) key row h = found_among key row t.rows h

only_by : (o : Option Table) (schema : Schema) (row : List ℕ) → GoodTable o → option_map (λ (t : Table). t.schema) o ≡ Some schema → IsAmong (listed_in o) row → option_and_then (λ (t : Table). lookup (bytes_eq (row_key schema row)) t.rows) o ≡ Some row
only_by None schema row good is there = absurd cc
only_by (Some t) schema row good is there =
    let p = parts t good in
    let same : t.schema ≡ schema = inside t.schema schema is in
    subst (λ (c : Schema). lookup (bytes_eq (row_key c row)) t.rows ≡ Some row) same
    (entry_there (key_cmp t.schema) (keys_apart t.schema) t.rows there.0 (row_key t.schema row) row p.2 (entry_of_row t.schema t.rows there.0 row p.1 there.1))

order_by : (o : Option Table) (schema : Schema) → GoodTable o → option_map (λ (t : Table). t.schema) o ≡ Some schema → rises (key_cmp schema) (map (row_key schema) (listed_in o)) ≡ true
order_by None schema good is = absurd cc
order_by (Some t) schema good is =
    let p = parts t good in
    let same : t.schema ≡ schema = inside t.schema schema is in
    subst (λ (c : Schema). rises (key_cmp c) (map (row_key c) (values_of t.rows)) ≡ true) same (ap (rises (key_cmp t.schema)) (sym (keys_are_of_rows t.schema t.rows p.1)) ∙ p.2)

pub rows_are_found : (s : Store) (name : List ℕ) → is_store s ≡ true → ListsFound s name
rows_are_found s name h = record {
  all = all_by (table_of s name);
  only = λ schema row is there. only_by (table_of s name) schema row (good_table s name (all_tables s h)) is there;
  order = λ schema is. order_by (table_of s name) schema (good_table s name (all_tables s h)) is;
}

pub rows_same : (s t : Store) (name : List ℕ) → is_store s ≡ true → is_store t ≡ true → schema_of s name ≡ schema_of t name → ((key : List ℕ) → row_of s name key ≡ row_of t name key) → rows_of s name ≡ rows_of t name
rows_same s t name good_s good_t schemas rows =
    ap listed_in (same_at (table_of s name) (table_of t name) (good_table s name (all_tables s good_s)) (good_table t name (all_tables t good_t)) schemas rows)

-- ---- names

abbrev bare : {X : Type 0} → List (List ℕ × X) → List (List ℕ × Unit {0})
bare es = map (λ e. (e.0, tt)) es

bare_keys : {X : Type 0} (es : List (List ℕ × X)) → keys_of (bare es) ≡ keys_of es
bare_keys [] = refl
bare_keys (e ∷ es) = ap (λ (ks : List (List ℕ)). e.0 ∷ ks) (bare_keys es)

bare_step : {X : Type 0} (x : X) (b : Bool) (rest : Option X) (more : Option (Unit {0})) → more ≡ option_map (λ y. tt) rest → cond b (Some tt) more ≡ option_map (λ y. tt) (cond b (Some x) rest)
bare_step x true rest more same = refl
bare_step x false rest more same = same

bare_found : {X : Type 0} (q : List ℕ) (es : List (List ℕ × X)) → lookup (bytes_eq q) (bare es) ≡ option_map (λ y. tt) (lookup (bytes_eq q) es)
bare_found q [] = refl
bare_found q (e ∷ es) = bare_step e.1 (bytes_eq q e.0) (lookup (bytes_eq q) es) (lookup (bytes_eq q) (bare es)) (bare_found q es)

both_known : (a b : Option Table) → is_some (option_map (λ (t : Table). t.schema) a) ≡ is_some (option_map (λ (t : Table). t.schema) b) → ◌≡◌ {A = Option (Unit {0})} (option_map (λ y. tt) a) (option_map (λ y. tt) b)
both_known None None h = refl
both_known (Some x) (Some y) h = refl
both_known None (Some y) h = absurd cc
both_known (Some x) None h = absurd cc

pub names_same : (s t : Store) → is_store s ≡ true → is_store t ≡ true → ((q : List ℕ) → is_some (schema_of s q) ≡ is_some (schema_of t q)) → (keys_of s ≡ keys_of t) × (length s ≡ length t)
names_same s t good_s good_t known =
    let up : (u : Store) → is_store u ≡ true → rises (slice_cmp nat_cmp) (keys_of (bare u)) ≡ true = λ u h. ap (rises (slice_cmp nat_cmp)) (bare_keys u) ∙ second_true (list_all named_table u) (rises (slice_cmp nat_cmp) (keys_of u)) h in
    let all : bare s ≡ bare t = lists_same (slice_cmp nat_cmp) nat_list_cmp_total names_apart (bare s) (bare t) (up s good_s) (up t good_t)
    (λ q. bare_found q s ∙ both_known (table_of s q) (table_of t q) (known q) ∙ sym (bare_found q t)) in
    let names : keys_of s ≡ keys_of t = sym (bare_keys s) ∙ ap (λ (l : List (List ℕ × Unit {0})). keys_of l) all ∙ bare_keys t in
    (names, sym (length-map s (λ (e : List ℕ × Table). e.0)) ∙ ap length names ∙ length-map t (λ (e : List ℕ × Table). e.0))

-- ---- what a change makes of each table

there_by : (o n : Option Table) (b : Bool) (t fresh : Table) → n ≡ Some t → (b ≡ true → n ≡ o) → o ≡ cond b (Some (unwrap_or n fresh)) o
there_by o n true t fresh is same = sym (same refl) ∙ is ∙ ap (λ (m : Option Table). Some (unwrap_or m fresh)) (sym is)
there_by o n false t fresh is same = refl

fresh_by : (o n : Option Table) (b : Bool) (fresh : Table) → n ≡ None → cond b (Some fresh) o ≡ cond b (Some (unwrap_or n fresh)) o
fresh_by o n true fresh is = ap (λ (m : Option Table). Some (unwrap_or m fresh)) (sym is)
fresh_by o n false fresh is = refl

created_by : (name : List ℕ) (fresh : Table) (s : Store) (q : List ℕ) (n : Option Table) → table_of s name ≡ n → table_of (cond (is_some n) s (insert_entry (slice_cmp nat_cmp) s name fresh)) q ≡ cond (bytes_eq q name) (Some (unwrap_or (table_of s name) fresh)) (table_of s q)
created_by name fresh s q None is = found_put (slice_cmp nat_cmp) names_apart q name fresh s ∙ fresh_by (table_of s q) (table_of s name) (bytes_eq q name) fresh is
created_by name fresh s q (Some t) is = there_by (table_of s q) (table_of s name) (bytes_eq q name) t fresh is (λ h. ap (table_of s) (sym (same_bytes q name h)))

pub table_created : (name : List ℕ) (schema : Schema) (s : Store) (q : List ℕ) → table_of (apply (create name schema) s) q ≡ cond (bytes_eq q name) (Some (unwrap_or (table_of s name) (record { schema = schema; rows = [] }))) (table_of s q)
table_created name schema s q = created_by name (record { schema = schema; rows = [] }) s q (table_of s name) refl

-- ---- and of the names

name_step : {X : Type 0} (R : List ℕ → List ℕ → Ordering) (k : List ℕ) (v : X) (e : List ℕ × X) (es rest : List (List ℕ × X)) (ns more : List (List ℕ × List ℕ)) (o : Ordering) → keys_of es ≡ keys_of ns → keys_of rest ≡ keys_of more
    → keys_of (match_ordering o ((k, v) ∷ e ∷ es) ((e.0, v) ∷ es) (e ∷ rest)) ≡ keys_of (match_ordering o ((k, k) ∷ (e.0, e.0) ∷ ns) ((e.0, k) ∷ ns) ((e.0, e.0) ∷ more))
name_step R k v e es rest ns more Less keys same = ap (λ (ks : List (List ℕ)). k ∷ e.0 ∷ ks) keys
name_step R k v e es rest ns more Equal keys same = ap (λ (ks : List (List ℕ)). e.0 ∷ ks) keys
name_step R k v e es rest ns more Greater keys same = ap (λ (ks : List (List ℕ)). e.0 ∷ ks) same

self_keys : (ks : List (List ℕ)) → keys_of (map (λ (n : List ℕ). (n, n)) ks) ≡ ks
self_keys [] = refl
self_keys (k ∷ ks) = ap (λ (l : List (List ℕ)). k ∷ l) (self_keys ks)

names_put : {X : Type 0} (R : List ℕ → List ℕ → Ordering) (k : List ℕ) (v : X) (es : List (List ℕ × X)) → keys_of (insert_entry R es k v) ≡ keys_of (insert_entry R (map (λ (n : List ℕ). (n, n)) (keys_of es)) k k)
names_put R k v [] = refl
names_put R k v (e ∷ es) =
    name_step R k v e es (insert_entry R es k v) (map (λ (n : List ℕ). (n, n)) (keys_of es)) (insert_entry R (map (λ (n : List ℕ). (n, n)) (keys_of es)) k k) (R k e.0) (sym (self_keys (keys_of es))) (names_put R k v es)

created_names : (name : List ℕ) (fresh : Table) (s : Store) (b : Bool) → keys_of (cond b s (insert_entry (slice_cmp nat_cmp) s name fresh)) ≡ cond b (keys_of s) (with_name name (keys_of s))
created_names name fresh s true = refl
created_names name fresh s false = names_put (slice_cmp nat_cmp) name fresh s

pub names_change : (change : Change) (s : Store) → keys_of (apply change s) ≡ names_after change s
names_change (create name schema) s = created_names name (record { schema = schema; rows = [] }) s (is_some (table_of s name))
names_change (put name row) s = same_keys (put_row row) name s
names_change (remove name key) s = same_keys (remove_row key) name s
