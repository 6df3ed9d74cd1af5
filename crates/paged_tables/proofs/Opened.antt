-- Tables that are opened behind others, lent, and laid anew.
use Rattle.std.proofs.Common.{◌≡◌, ◌++◌, ℕ, List, [], ◌∷◌, Bool, true, false, cond, refl, sym, ap, subst, ◌∙◌, Option, Some, None, filter, Ordering, Less, Result, Ok, Err, OnOk, OnErr}
use Rattle.std.specs.Prelude.{bytes_eq, ◌&&◌}
use Rattle.std.specs.Global.{Vec}
use Rattle.std.specs.List.{AllByRecursion, list_all}
use Rattle.std.specs.Map.{keys_of}
use Rattle.std.specs.Map.Calls.{RetainsPairs}
use Rattle.std.specs.BTreeMap.{insert_entry}
use Rattle.std.specs.Ordering.{is_lt, match_ordering, ordering_reverse}
use Rattle.std.specs.Str.{IsUtf8, is_utf8}
use Rattle.std.proofs.lemmas.Cmp.{nat_list_cmp_total}
use Rattle.std.proofs.lemmas.Str.{IsUtf8-from_is_utf8}
use Rattle.std.proofs.lemmas.Map.Keys.{sorted_head, sorted_tail}
use Rattle.drda_words.specs.Order.{rises}
use Rattle.key_map.specs.Merging.{InOrder, Rows}
use Rattle.key_map.specs.Slots.{by_bytes, with_row}
use Rattle.row_values.specs.Schema.{Schema, is_name, is_schema}
use Rattle.row_values.specs.Row.{is_row}
use Rattle.row_values.specs.Key.{key_cmp, row_key}
use Rattle.row_values.proofs.ByteSteps.{name_utf8}
use Rattle.row_values.proofs.ValueLaws.{both_true, first_true, second_true}
use Rattle.table_map.specs.Stored.{Places}
use Rattle.tables.specs.Tables.{Store, Table}
use Rattle.tables.specs.View.{is_entry, is_store, is_table}
use Rattle.tables.proofs.Changes.{names_apart}
use Rattle.tables.proofs.Finding.{itself}
use Rattle.tables.proofs.Keeping.{all_put, named_table, rises_put}
use Rattle.paged_tables.specs.Stored.{HaveForms, IsOnPages, IsRowAt, LiesInside, LiesOutside, Stored, at_keys, laid_anew, shown, table_in}
use Rattle.paged_tables.specs.TablesByName.{AddsPages, AreLaid, ComesLast, PagesStay, RelaysNext, Tables, created_of, is_created, relaid, store_of, tables_in}
use Rattle.paged_tables.proofs.FormLaws.{agree}
use Rattle.paged_tables.proofs.NamedTables.{Entry}
use Rattle.paged_tables.proofs.Pages.{pages_kept}
use Rattle.paged_tables.proofs.TreeSteps.{store_kept}

-- ---- names are texts

utf8_by : (name : List ℕ) (b : Bool) → is_utf8 name ≡ b → cond b (Some name) None ≡ Some name → IsUtf8 name
utf8_by name true is found = IsUtf8-from_is_utf8 name is
utf8_by name false is found = absurd cc

pub name_is_text : (name : List ℕ) → is_name name ≡ true → IsUtf8 name
name_is_text name h = utf8_by name (is_utf8 name) refl (name_utf8 name h)

-- ---- a table whose name comes last

pub insert_last : {X : Type 0} (q : List ℕ) (v : X) (es : List (List ℕ × X)) → ComesLast q es → insert_entry by_bytes es q v ≡ es ++ (q, v) ∷ []
insert_last q v [] h = refl
insert_last q v (e ∷ es) h =
    ap (λ (o : Ordering). match_ordering o ((q, v) ∷ e ∷ es) ((e.0, v) ∷ es) (e ∷ insert_entry by_bytes es q v)) (nat_list_cmp_total.antisymm q e.0 ∙ ap ordering_reverse h.0)
    ∙ ap (λ l. e ∷ l) (insert_last q v es h.1)

last_step : (b : Bool) (q k : List ℕ) (t : Stored) (es fs : Tables) → t.is_created ≡ b → ComesLast q (with_row k (shown t) (store_of es)) → (ComesLast q (store_of es) → ComesLast q fs) → ComesLast q (cond b ((k, t) ∷ fs) fs)
last_step true q k t es fs is h more =
    let here = subst (λ c. ComesLast q (with_row k (cond c (Some (table_in t)) None) (store_of es))) is h in (here.0, more here.1)
last_step false q k t es fs is h more = more (subst (λ c. ComesLast q (with_row k (cond c (Some (table_in t)) None) (store_of es))) is h)

-- behind those that are created
pub created_last : (q : List ℕ) (s : Tables) → ComesLast q (store_of s) → ComesLast q (created_of s)
created_last q [] h = tt
created_last q (e ∷ es) h = last_step e.1.is_created q e.0 e.1 es (filter is_created es) refl h (created_last q es)

with_more : (k : List ℕ) (o : Option Table) (xs ys : Store) → with_row k o (xs ++ ys) ≡ with_row k o xs ++ ys
with_more k None xs ys = refl
with_more k (Some t) xs ys = refl

store_last : (q : List ℕ) (t : Stored) (s : Tables) → t.is_created ≡ true → store_of (s ++ (q, t) ∷ []) ≡ store_of s ++ (q, table_in t) ∷ []
store_last q t [] is = ap (λ b. with_row q (cond b (Some (table_in t)) None) []) is
store_last q t (e ∷ es) is = ap (with_row e.0 (shown e.1)) (store_last q t es is) ∙ with_more e.0 (shown e.1) (store_of es) ((q, table_in t) ∷ [])

pub store_added : (q : List ℕ) (t : Stored) (s : Tables) → t.is_created ≡ true → store_of (created_of s ++ (q, t) ∷ []) ≡ store_of s ++ (q, table_in t) ∷ []
store_added q t s is = store_last q t (created_of s) is ∙ ap (λ (l : Store). l ++ (q, table_in t) ∷ []) (store_kept s)

-- ---- it is a table

entries_good : (schema : Schema) (rows : Rows) → HaveForms schema rows → list_all (is_entry schema) (at_keys schema rows) ≡ true
entries_good schema [] all = refl
entries_good schema (e ∷ es) all =
    both_true (is_entry schema (row_key schema e.1, e.1)) (list_all (is_entry schema) (at_keys schema es))
    (both_true (is_row schema e.1) (bytes_eq (row_key schema e.1) (row_key schema e.1)) all.0.good (itself (row_key schema e.1))) (entries_good schema es all.1)

before_good : (schema : Schema) (e : List ℕ × List ℕ) (rows : Rows) → IsRowAt schema e.1 e.0 → HaveForms schema rows → AllByRecursion (λ y. by_bytes e.0 y ≡ Less) (keys_of rows)
    → list_all (λ later. is_lt (key_cmp schema (row_key schema e.1) later)) (keys_of (at_keys schema rows)) ≡ true
before_good schema e [] one all up = refl
before_good schema e (d ∷ ds) one all up =
    both_true (is_lt (key_cmp schema (row_key schema e.1) (row_key schema d.1))) (list_all (λ later. is_lt (key_cmp schema (row_key schema e.1) later)) (keys_of (at_keys schema ds)))
    (ap is_lt (sym (agree schema (row_key schema e.1) (row_key schema d.1) e.0 d.0 one.key all.0.key) ∙ up.0)) (before_good schema e ds one all.1 up.1)

pub rises_good : (schema : Schema) (rows : Rows) → HaveForms schema rows → InOrder rows → rises (key_cmp schema) (keys_of (at_keys schema rows)) ≡ true
rises_good schema [] all up = refl
rises_good schema (e ∷ es) all up =
    both_true (list_all (λ later. is_lt (key_cmp schema (row_key schema e.1) later)) (keys_of (at_keys schema es))) (rises (key_cmp schema) (keys_of (at_keys schema es)))
    (before_good schema e es all.0 all.1 (sorted_head by_bytes e.0 (keys_of es) up)) (rises_good schema es all.1 (sorted_tail by_bytes e.0 (keys_of es) up))

table_good : (schema : Schema) (rows : Rows) → is_schema schema ≡ true → HaveForms schema rows → InOrder rows → is_table (record { schema = schema; rows = at_keys schema rows }) ≡ true
table_good schema rows good all up =
    both_true (is_schema schema && list_all (is_entry schema) (at_keys schema rows)) (rises (key_cmp schema) (keys_of (at_keys schema rows)))
    (both_true (is_schema schema) (list_all (is_entry schema) (at_keys schema rows)) good (entries_good schema rows all)) (rises_good schema rows all up)

-- behind the tables of a store it makes one of them
pub good_added : (q : List ℕ) (schema : Schema) (rows : Rows) (s : Store) → is_store s ≡ true → is_name q ≡ true → ComesLast q s → is_schema schema ≡ true → HaveForms schema rows → InOrder rows
    → is_store (s ++ (q, record { schema = schema; rows = at_keys schema rows }) ∷ []) ≡ true
good_added q schema rows s whole named last good all up =
    let t : Table = record { schema = schema; rows = at_keys schema rows } in
    let one : named_table (q, t) ≡ true = both_true (is_name q) (is_table t) named (table_good schema rows good all up) in
    ap is_store (sym (insert_last q t s last))
    ∙ both_true (list_all named_table (insert_entry by_bytes s q t)) (rises by_bytes (keys_of (insert_entry by_bytes s q t)))
    (all_put by_bytes names_apart named_table q t s one (first_true (list_all named_table s) (rises by_bytes (keys_of s)) whole))
    (rises_put by_bytes nat_list_cmp_total q t s (second_true (list_all named_table s) (rises by_bytes (keys_of s)) whole))

-- ---- its pages

module _ (P : Stored → Type 0) where
  all_last : (s : Tables) (q : List ℕ) (t : Stored) → AllByRecursion (λ (e : List ℕ × Stored). P e.1) s → P t → AllByRecursion (λ (e : List ℕ × Stored). P e.1) (s ++ (q, t) ∷ [])
  all_last [] q t all one = (one, tt)
  all_last (e ∷ es) q t all one = (all.0, all_last es q t all.1 one)

pub stay_added : (s : Tables) (t : Stored) (u : Tables) → PagesStay s u → AddsPages s t u
stay_added s t u stay = record {
  stand = λ file h one. stay.stand file h;
  inside = λ size h one. stay.inside size h;
  apart = λ from end h one. stay.apart from end h;
}

pub pages_behind : (s : Tables) (q : List ℕ) (t : Stored) → AddsPages s t (created_of s ++ (q, t) ∷ [])
pages_behind s q t =
    let kept = pages_kept s in
    record {
      stand = λ file h one. all_last (IsOnPages file) (created_of s) q t (kept.stand file h) one;
      inside = λ size h one. all_last (LiesInside size) (created_of s) q t (kept.inside size h) one;
      apart = λ from end h one. all_last (LiesOutside from end) (created_of s) q t (kept.apart from end h) one;
    }

pub then_added : (s t : Tables) (one : Stored) (u : Tables) → PagesStay s t → AddsPages t one u → AddsPages s one u
then_added s t one u stay adds = record {
  stand = λ file h is. adds.stand file (stay.stand file h) is;
  inside = λ size h is. adds.inside size (stay.inside size h) is;
  apart = λ from end h is. adds.apart from end (stay.apart from end h) is;
}

-- whether or not there was memory
module _ {A E : Type 0} (s u : Tables) (q : List ℕ) (t : Stored) where
  pub added_or_kept : (r : Result A E) → OnOk r (u ≡ created_of s ++ (q, t) ∷ []) → OnErr r (u ≡ created_of s) → AddsPages s t u
  added_or_kept (Ok x) is kept = subst (λ (l : Tables). AddsPages s t l) (sym is) (pages_behind s q t)
  added_or_kept (Err e) is kept = subst (λ (l : Tables). AddsPages s t l) (sym kept) (stay_added s t (created_of s) (pages_kept s))

  pub good_or_kept : (r : Result A E) → OnOk r (u ≡ created_of s ++ (q, t) ∷ []) → OnErr r (u ≡ created_of s) → t.is_created ≡ true → is_store (store_of s) ≡ true → is_store (store_of s ++ (q, table_in t) ∷ []) ≡ true → is_store (store_of u) ≡ true
  good_or_kept (Ok x) is kept here old new = ap (λ (l : Tables). is_store (store_of l)) is ∙ ap is_store (store_added q t s here) ∙ new
  good_or_kept (Err e) is kept here old new = ap (λ (l : Tables). is_store (store_of l)) kept ∙ ap is_store (store_kept s) ∙ old

  pub store_or_added : (r : Result A E) → OnOk r (u ≡ created_of s ++ (q, t) ∷ []) → t.is_created ≡ true → OnOk r (store_of u ≡ store_of s ++ (q, table_in t) ∷ [])
  store_or_added (Ok x) is here = ap store_of is ∙ store_added q t s here
  store_or_added (Err e) is here = tt

  pub store_or_kept : (r : Result A E) → OnErr r (u ≡ created_of s) → OnErr r (store_of u ≡ store_of s)
  store_or_kept (Ok x) kept = tt
  store_or_kept (Err e) kept = ap store_of kept ∙ store_kept s

-- the same table by another name for it
pub same_added : {A E : Type 0} (r : Result A E) (new base : Tables) (q n : List ℕ) (t u : Stored) → q ≡ n → t ≡ u → OnOk r (new ≡ base ++ (q, t) ∷ []) → OnOk r (new ≡ base ++ (n, u) ∷ [])
same_added r new base q n t u same is h =
    subst (λ (x : Stored). OnOk r (new ≡ base ++ (n, x) ∷ [])) is (subst (λ (m : List ℕ). OnOk r (new ≡ base ++ (m, t) ∷ [])) same h)

-- ---- tables whose rows are laid anew

pair_step : (b : Bool) (places left : List Places) (k : Vec ℕ) (v w : Stored) (rest : List Entry) (ss : Tables) → RelaysNext places v b w left → tables_in rest ≡ relaid left ss → tables_in (cond b ((k, w) ∷ rest) rest) ≡ relaid places ((k.items, v) ∷ ss)
pair_step false [] left k v w rest ss h more = more ∙ ap (λ (l : List Places). relaid l ss) h.1 ∙ sym (ap (λ c. cond c ((k.items, v) ∷ relaid [] ss) (relaid [] ss)) h.0)
pair_step false (p ∷ ps) left k v w rest ss h more =
    more ∙ ap (λ (l : List Places). relaid l ss) h.1 ∙ sym (ap (λ c. cond c ((k.items, laid_anew p v) ∷ relaid ps ss) (relaid (p ∷ ps) ss)) h.0)
pair_step true [] left k v w rest ss h more =
    ap (λ (l : Tables). (k.items, w) ∷ l) (more ∙ ap (λ (l : List Places). relaid l ss) h.2) ∙ ap (λ (u : Stored). (k.items, u) ∷ relaid [] ss) h.1
    ∙ sym (ap (λ c. cond c ((k.items, v) ∷ relaid [] ss) (relaid [] ss)) h.0)
pair_step true (p ∷ ps) left k v w rest ss h more =
    ap (λ (l : Tables). (k.items, w) ∷ l) (more ∙ ap (λ (l : List Places). relaid l ss) h.2) ∙ ap (λ (u : Stored). (k.items, u) ∷ relaid ps ss) h.1
    ∙ sym (ap (λ c. cond c ((k.items, laid_anew p v) ∷ relaid ps ss) (relaid (p ∷ ps) ss)) h.0)

module _ {F : Type 0} (T : F → Vec ℕ → Stored → Bool → Stored → F → Type 0) (left_in : F → List Places) (step : (f : F) (k : Vec ℕ) (v : Stored) (b : Bool) (w : Stored) (g : F) → T f k v b w g → RelaysNext (left_in f) v b w (left_in g)) where
  pub laid_pairs : (f : F) (es kept : List Entry) → RetainsPairs T f es kept → tables_in kept ≡ relaid (left_in f) (tables_in es)
  laid_pairs f [] kept h = ap tables_in h
  laid_pairs f (e ∷ es) kept h =
      ap tables_in h.6 ∙ pair_step h.0 (left_in f) (left_in h.2) e.0 e.1 h.1 h.3 (tables_in es) (step f e.0 e.1 h.0 h.1 h.2 h.4) (laid_pairs h.2 es h.3 h.5)

-- what is true of each table on its new pages is true of all
module _ (P : Stored → Type 0) where
  laid_step : (b : Bool) (k : List ℕ) (t : Stored) (p : Places) (ps : List Places) (es : Tables) → AreLaid P (p ∷ ps) (cond b ((k, t) ∷ created_of es) (created_of es))
      → (AreLaid P ps (created_of es) → AllByRecursion (λ (e : List ℕ × Stored). P e.1) (relaid ps es)) → (AreLaid P (p ∷ ps) (created_of es) → AllByRecursion (λ (e : List ℕ × Stored). P e.1) (relaid (p ∷ ps) es))
      → AllByRecursion (λ (e : List ℕ × Stored). P e.1) (cond b ((k, laid_anew p t) ∷ relaid ps es) (relaid (p ∷ ps) es))
  laid_step true k t p ps es h here past = (h.0, here h.1)
  laid_step false k t p ps es h here past = past h

  none_step : (b : Bool) (k : List ℕ) (t : Stored) (es : Tables) → AreLaid P [] (cond b ((k, t) ∷ created_of es) (created_of es)) → (AreLaid P [] (created_of es) → AllByRecursion (λ (e : List ℕ × Stored). P e.1) (relaid [] es))
      → AllByRecursion (λ (e : List ℕ × Stored). P e.1) (cond b ((k, t) ∷ relaid [] es) (relaid [] es))
  none_step true k t es h past = absurd h
  none_step false k t es h past = past h

  pub all_relaid : (places : List Places) (s : Tables) → AreLaid P places (created_of s) → AllByRecursion (λ (e : List ℕ × Stored). P e.1) (relaid places s)
  all_relaid places [] h = tt
  all_relaid [] (e ∷ es) h = none_step e.1.is_created e.0 e.1 es h (all_relaid [] es)
  all_relaid (p ∷ ps) (e ∷ es) h = laid_step e.1.is_created e.0 e.1 p ps es h (all_relaid ps es) (all_relaid (p ∷ ps) es)

shown_step : (b : Bool) (k : List ℕ) (t u : Stored) (es fs gs : Tables) → t.is_created ≡ b → shown u ≡ shown t → store_of fs ≡ store_of es → store_of gs ≡ store_of es → store_of (cond b ((k, u) ∷ fs) gs) ≡ with_row k (shown t) (store_of es)
shown_step true k t u es fs gs is same h g = ap (λ (o : Option Table). with_row k o (store_of fs)) same ∙ ap (with_row k (shown t)) h
shown_step false k t u es fs gs is same h g = g ∙ sym (ap (λ c. with_row k (cond c (Some (table_in t)) None) (store_of es)) is)

-- they show what they did
pub store_relaid : (places : List Places) (s : Tables) → store_of (relaid places s) ≡ store_of s
store_relaid places [] = refl
store_relaid [] (e ∷ es) = shown_step e.1.is_created e.0 e.1 e.1 es (relaid [] es) (relaid [] es) refl refl (store_relaid [] es) (store_relaid [] es)
store_relaid (p ∷ ps) (e ∷ es) =
    shown_step e.1.is_created e.0 e.1 (laid_anew p e.1) es (relaid ps es) (relaid (p ∷ ps) es) refl refl (store_relaid ps es) (store_relaid (p ∷ ps) es)
