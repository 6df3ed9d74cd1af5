-- Every change keeps a store one.
use Rattle.std.proofs.Common.{◌≡◌, ℕ, List, [], ◌∷◌, Bool, true, false, cond, ◌&&◌, if◌then◌else◌, refl, ap, subst, ◌∙◌, Ordering, Less, Equal, Greater}
use Rattle.std.specs.Prelude.{bytes_eq, filter, is_some, not}
use Rattle.std.specs.List.{list_all}
use Rattle.std.specs.Cmp.{IsTotalOrder}
use Rattle.std.specs.Map.{keys_of}
use Rattle.std.specs.BTreeMap.{insert_entry}
use Rattle.std.specs.Ordering.{is_lt, match_ordering, nat_cmp, ordering_reverse}
use Rattle.std.specs.Cmp.Lexicographic.{nat_list_cmp_total, slice_cmp}
use Rattle.row_values.specs.Schema.{Schema, is_name, is_schema}
use Rattle.row_values.specs.Row.{is_row}
use Rattle.row_values.specs.Key.{key_cmp, row_key}
use Rattle.tables.specs.Change.{Change, create, put, remove}
use Rattle.tables.specs.Tables.{Store, Table, apply, put_row, remove_row, table_of, with_table}
use Rattle.drda_words.specs.Order.{rises}
use Rattle.tables.specs.View.{is_entry, is_sound, is_store, is_table}
use Rattle.row_values.proofs.ValueLaws.{both_true, first_true, second_true}
use Rattle.row_values.proofs.KeyOrder.{key_cmp_total}
use Rattle.tables.proofs.Finding.{TellsApart, itself}
use Rattle.tables.proofs.Changes.{keys_apart, names_apart}

pub less_is : (o : Ordering) → is_lt o ≡ true → o ≡ Less
less_is Less h = refl
less_is Equal h = absurd cc
less_is Greater h = absurd cc

-- a key comes before all of a list
abbrev pub before_all : (List ℕ → List ℕ → Ordering) → List ℕ → List (List ℕ) → Bool
before_all R k ks = list_all (λ later. is_lt (R k later)) ks

pub before_trans : (R : List ℕ → List ℕ → Ordering) → IsTotalOrder R → (a b : List ℕ) (ks : List (List ℕ)) → R a b ≡ Less → before_all R b ks ≡ true → before_all R a ks ≡ true
before_trans R o a b [] lt h = refl
before_trans R o a b (k ∷ ks) lt h =
    both_true (is_lt (R a k)) (before_all R a ks) (ap is_lt (o.trans a b k lt (less_is (R b k) (first_true (is_lt (R b k)) (before_all R b ks) h)))) (before_trans R o a b ks lt (second_true (is_lt (R b k)) (before_all R b ks) h))

before_step : (R : List ℕ → List ℕ → Ordering) {X : Type 0} (a k : List ℕ) (v : X) (e : List ℕ × X) (es rest : List (List ℕ × X)) (o : Ordering) → R a k ≡ Less → before_all R a (keys_of (e ∷ es)) ≡ true → before_all R a (keys_of rest) ≡ true
    → before_all R a (keys_of (match_ordering o ((k, v) ∷ e ∷ es) ((e.0, v) ∷ es) (e ∷ rest))) ≡ true
before_step R a k v e es rest Less lt h more = both_true (is_lt (R a k)) (before_all R a (keys_of (e ∷ es))) (ap is_lt lt) h
before_step R a k v e es rest Equal lt h more = h
before_step R a k v e es rest Greater lt h more = both_true (is_lt (R a e.0)) (before_all R a (keys_of rest)) (first_true (is_lt (R a e.0)) (before_all R a (keys_of es)) h) more

before_put : (R : List ℕ → List ℕ → Ordering) {X : Type 0} (a k : List ℕ) (v : X) (es : List (List ℕ × X)) → R a k ≡ Less → before_all R a (keys_of es) ≡ true → before_all R a (keys_of (insert_entry R es k v)) ≡ true
before_put R a k v [] lt h = both_true (is_lt (R a k)) true (ap is_lt lt) refl
before_put R a k v (e ∷ es) lt h = before_step R a k v e es (insert_entry R es k v) (R k e.0) lt h (before_put R a k v es lt (second_true (is_lt (R a e.0)) (before_all R a (keys_of es)) h))

rises_step : (R : List ℕ → List ℕ → Ordering) {X : Type 0} → IsTotalOrder R → (k : List ℕ) (v : X) (e : List ℕ × X) (es rest : List (List ℕ × X)) (o : Ordering) → R k e.0 ≡ o → rises R (keys_of (e ∷ es)) ≡ true → rises R (keys_of rest) ≡ true
    → (R e.0 k ≡ Less → before_all R e.0 (keys_of rest) ≡ true) → rises R (keys_of (match_ordering o ((k, v) ∷ e ∷ es) ((e.0, v) ∷ es) (e ∷ rest))) ≡ true
rises_step R total k v e es rest Less is h more above =
    both_true (before_all R k (keys_of (e ∷ es))) (rises R (keys_of (e ∷ es)))
    (both_true (is_lt (R k e.0)) (before_all R k (keys_of es)) (ap is_lt is) (before_trans R total k e.0 (keys_of es) is (first_true (before_all R e.0 (keys_of es)) (rises R (keys_of es)) h))) h
rises_step R total k v e es rest Equal is h more above = h
rises_step R total k v e es rest Greater is h more above =
    both_true (before_all R e.0 (keys_of rest)) (rises R (keys_of rest)) (above (total.antisymm e.0 k ∙ ap ordering_reverse is)) more

-- an entry that is put keeps the order
pub rises_put : (R : List ℕ → List ℕ → Ordering) {X : Type 0} → IsTotalOrder R → (k : List ℕ) (v : X) (es : List (List ℕ × X)) → rises R (keys_of es) ≡ true → rises R (keys_of (insert_entry R es k v)) ≡ true
rises_put R total k v [] h = refl
rises_put R total k v (e ∷ es) h =
    rises_step R total k v e es (insert_entry R es k v) (R k e.0) refl h (rises_put R total k v es (second_true (before_all R e.0 (keys_of es)) (rises R (keys_of es)) h))
    (λ lt. before_put R e.0 k v es lt (first_true (before_all R e.0 (keys_of es)) (rises R (keys_of es)) h))

all_step : (R : List ℕ → List ℕ → Ordering) {X : Type 0} → TellsApart R → (p : List ℕ × X → Bool) (k : List ℕ) (v : X) (e : List ℕ × X) (es rest : List (List ℕ × X)) (o : Ordering) → R k e.0 ≡ o → p (k, v) ≡ true → list_all p (e ∷ es) ≡ true → list_all p rest ≡ true
    → list_all p (match_ordering o ((k, v) ∷ e ∷ es) ((e.0, v) ∷ es) (e ∷ rest)) ≡ true
all_step R t p k v e es rest Less is one h more = both_true (p (k, v)) (list_all p (e ∷ es)) one h
all_step R t p k v e es rest Equal is one h more = both_true (p (e.0, v)) (list_all p es) (subst (λ (l : List ℕ). p (l, v) ≡ true) (t.exact k e.0 is) one) (second_true (p e) (list_all p es) h)
all_step R t p k v e es rest Greater is one h more = both_true (p e) (list_all p rest) (first_true (p e) (list_all p es) h) more

-- what holds of all entries holds after another was put
pub all_put : (R : List ℕ → List ℕ → Ordering) {X : Type 0} → TellsApart R → (p : List ℕ × X → Bool) (k : List ℕ) (v : X) (es : List (List ℕ × X)) → p (k, v) ≡ true → list_all p es ≡ true → list_all p (insert_entry R es k v) ≡ true
all_put R t p k v [] one h = both_true (p (k, v)) true one refl
all_put R t p k v (e ∷ es) one h = all_step R t p k v e es (insert_entry R es k v) (R k e.0) refl one h (all_put R t p k v es one (second_true (p e) (list_all p es) h))

-- ---- entries taken out

before_some : {X : Type 0} (R : List ℕ → List ℕ → Ordering) (a : List ℕ) (t : List ℕ × X → Bool) (es : List (List ℕ × X)) → before_all R a (keys_of es) ≡ true → before_all R a (keys_of (filter t es)) ≡ true
before_some R a t [] h = refl
before_some R a t (e ∷ es) h = before_cond R a e (filter t es) (t e) (first_true (is_lt (R a e.0)) (before_all R a (keys_of es)) h) (before_some R a t es (second_true (is_lt (R a e.0)) (before_all R a (keys_of es)) h))
  where
    before_cond : {X : Type 0} (R : List ℕ → List ℕ → Ordering) (a : List ℕ) (e : List ℕ × X) (rest : List (List ℕ × X)) (b : Bool) → is_lt (R a e.0) ≡ true → before_all R a (keys_of rest) ≡ true → before_all R a (keys_of (cond b (e ∷ rest) rest)) ≡ true
    before_cond R a e rest true one more = both_true (is_lt (R a e.0)) (before_all R a (keys_of rest)) one more
    before_cond R a e rest false one more = more

rises_cond : {X : Type 0} (R : List ℕ → List ℕ → Ordering) (e : List ℕ × X) (rest : List (List ℕ × X)) (b : Bool) → before_all R e.0 (keys_of rest) ≡ true → rises R (keys_of rest) ≡ true → rises R (keys_of (cond b (e ∷ rest) rest)) ≡ true
rises_cond R e rest true one more = both_true (before_all R e.0 (keys_of rest)) (rises R (keys_of rest)) one more
rises_cond R e rest false one more = more

rises_some : {X : Type 0} (R : List ℕ → List ℕ → Ordering) (t : List ℕ × X → Bool) (es : List (List ℕ × X)) → rises R (keys_of es) ≡ true → rises R (keys_of (filter t es)) ≡ true
rises_some R t [] h = refl
rises_some R t (e ∷ es) h =
    rises_cond R e (filter t es) (t e) (before_some R e.0 t es (first_true (before_all R e.0 (keys_of es)) (rises R (keys_of es)) h)) (rises_some R t es (second_true (before_all R e.0 (keys_of es)) (rises R (keys_of es)) h))

all_cond : {A : Type 0} (p : A → Bool) (x : A) (rest : List A) (b : Bool) → p x ≡ true → list_all p rest ≡ true → list_all p (cond b (x ∷ rest) rest) ≡ true
all_cond p x rest true one more = both_true (p x) (list_all p rest) one more
all_cond p x rest false one more = more

all_some : {A : Type 0} (p t : A → Bool) (xs : List A) → list_all p xs ≡ true → list_all p (filter t xs) ≡ true
all_some p t [] h = refl
all_some p t (x ∷ xs) h = all_cond p x (filter t xs) (t x) (first_true (p x) (list_all p xs) h) (all_some p t xs (second_true (p x) (list_all p xs) h))

-- ---- tables

three : (a b c : Bool) → (a && b && c) ≡ true → (a ≡ true) × (b ≡ true) × (c ≡ true)
three true true true h = (refl, refl, refl)
three true true false h = absurd cc
three true false c h = absurd cc
three false b c h = absurd cc

pub parts : (t : Table) → is_table t ≡ true → (is_schema t.schema ≡ true) × (list_all (is_entry t.schema) t.rows ≡ true) × (rises (key_cmp t.schema) (keys_of t.rows) ≡ true)
parts t h = three (is_schema t.schema) (list_all (is_entry t.schema) t.rows) (rises (key_cmp t.schema) (keys_of t.rows)) h

whole : (t : Table) → is_schema t.schema ≡ true → list_all (is_entry t.schema) t.rows ≡ true → rises (key_cmp t.schema) (keys_of t.rows) ≡ true → is_table t ≡ true
whole t a b c = both_true (is_schema t.schema && list_all (is_entry t.schema) t.rows) (rises (key_cmp t.schema) (keys_of t.rows)) (both_true (is_schema t.schema) (list_all (is_entry t.schema) t.rows) a b) c

put_table : (row : List ℕ) (t : Table) (b : Bool) → is_row t.schema row ≡ b → is_table t ≡ true
    → is_table (if b then record { schema = t.schema; rows = insert_entry (key_cmp t.schema) t.rows (row_key t.schema row) row } else t) ≡ true
put_table row t true is h =
    let p = parts t h in
    let entry : is_entry t.schema (row_key t.schema row, row) ≡ true = both_true (is_row t.schema row) (bytes_eq (row_key t.schema row) (row_key t.schema row)) is (itself (row_key t.schema row)) in
    whole (record { schema = t.schema; rows = insert_entry (key_cmp t.schema) t.rows (row_key t.schema row) row }) p.0
    (all_put (key_cmp t.schema) (keys_apart t.schema) (is_entry t.schema) (row_key t.schema row) row t.rows entry p.1)
    (rises_put (key_cmp t.schema) (key_cmp_total t.schema) (row_key t.schema row) row t.rows p.2)
put_table row t false is h = h

pub put_row_good : (row : List ℕ) (t : Table) → is_table t ≡ true → is_table (put_row row t) ≡ true
put_row_good row t h = put_table row t (is_row t.schema row) refl h

pub remove_row_good : (key : List ℕ) (t : Table) → is_table t ≡ true → is_table (remove_row key t) ≡ true
remove_row_good key t h =
    let p = parts t h in
    whole (remove_row key t) p.0 (all_some (is_entry t.schema) (λ (e : List ℕ × List ℕ). not (bytes_eq key e.0)) t.rows p.1) (rises_some (key_cmp t.schema) (λ (e : List ℕ × List ℕ). not (bytes_eq key e.0)) t.rows p.2)

-- ---- stores

abbrev pub named_table : List ℕ × Table → Bool
named_table e = is_name e.0 && is_table e.1

with_all_by : (f : Table → Table) → ((t : Table) → is_table t ≡ true → is_table (f t) ≡ true) → (e : List ℕ × Table) (es rest : Store) (b : Bool) → list_all named_table (e ∷ es) ≡ true → list_all named_table rest ≡ true
    → list_all named_table (if b then (e.0, f e.1) ∷ es else e ∷ rest) ≡ true
with_all_by f keeps e es rest true h more =
    let one = first_true (named_table e) (list_all named_table es) h in
    both_true (named_table (e.0, f e.1)) (list_all named_table es) (both_true (is_name e.0) (is_table (f e.1)) (first_true (is_name e.0) (is_table e.1) one) (keeps e.1 (second_true (is_name e.0) (is_table e.1) one))) (second_true (named_table e) (list_all named_table es) h)
with_all_by f keeps e es rest false h more = both_true (named_table e) (list_all named_table rest) (first_true (named_table e) (list_all named_table es) h) more

with_all : (f : Table → Table) → ((t : Table) → is_table t ≡ true → is_table (f t) ≡ true) → (n : List ℕ) (s : Store) → list_all named_table s ≡ true → list_all named_table (with_table f n s) ≡ true
with_all f keeps n [] h = refl
with_all f keeps n (e ∷ es) h = with_all_by f keeps e es (with_table f n es) (bytes_eq n e.0) h (with_all f keeps n es (second_true (named_table e) (list_all named_table es) h))

same_keys_by : (f : Table → Table) (e : List ℕ × Table) (es rest : Store) (b : Bool) → keys_of rest ≡ keys_of es → keys_of (if b then (e.0, f e.1) ∷ es else e ∷ rest) ≡ keys_of (e ∷ es)
same_keys_by f e es rest true same = refl
same_keys_by f e es rest false same = ap (λ (ks : List (List ℕ)). e.0 ∷ ks) same

-- a table that changes keeps its name
pub same_keys : (f : Table → Table) (n : List ℕ) (s : Store) → keys_of (with_table f n s) ≡ keys_of s
same_keys f n [] = refl
same_keys f n (e ∷ es) = same_keys_by f e es (with_table f n es) (bytes_eq n e.0) (same_keys f n es)

with_store : (f : Table → Table) → ((t : Table) → is_table t ≡ true → is_table (f t) ≡ true) → (n : List ℕ) (s : Store) → is_store s ≡ true → is_store (with_table f n s) ≡ true
with_store f keeps n s h =
    both_true (list_all named_table (with_table f n s)) (rises (slice_cmp nat_cmp) (keys_of (with_table f n s)))
    (with_all f keeps n s (first_true (list_all named_table s) (rises (slice_cmp nat_cmp) (keys_of s)) h))
    (ap (rises (slice_cmp nat_cmp)) (same_keys f n s) ∙ second_true (list_all named_table s) (rises (slice_cmp nat_cmp) (keys_of s)) h)

create_store : (name : List ℕ) (schema : Schema) (s : Store) (b : Bool) → is_name name ≡ true → is_schema schema ≡ true → is_store s ≡ true
    → is_store (if b then s else insert_entry (slice_cmp nat_cmp) s name (record { schema = schema; rows = [] })) ≡ true
create_store name schema s true named good h = h
create_store name schema s false named good h =
    let fresh : Table = record { schema = schema; rows = [] } in
    let entry : named_table (name, fresh) ≡ true = both_true (is_name name) (is_table fresh) named (whole fresh good refl refl) in
    both_true (list_all named_table (insert_entry (slice_cmp nat_cmp) s name fresh)) (rises (slice_cmp nat_cmp) (keys_of (insert_entry (slice_cmp nat_cmp) s name fresh)))
    (all_put (slice_cmp nat_cmp) names_apart named_table name fresh s entry (first_true (list_all named_table s) (rises (slice_cmp nat_cmp) (keys_of s)) h))
    (rises_put (slice_cmp nat_cmp) nat_list_cmp_total name fresh s (second_true (list_all named_table s) (rises (slice_cmp nat_cmp) (keys_of s)) h))

-- every change keeps a store one
pub apply_keeps : (d : Change) (s : Store) → is_sound d ≡ true → is_store s ≡ true → is_store (apply d s) ≡ true
apply_keeps (create name schema) s good h = create_store name schema s (is_some (table_of s name)) (first_true (is_name name) (is_schema schema) good) (second_true (is_name name) (is_schema schema) good) h
apply_keeps (put name row) s good h = with_store (put_row row) (put_row_good row) name s h
apply_keeps (remove name key) s good h = with_store (remove_row key) (remove_row_good key) name s h
