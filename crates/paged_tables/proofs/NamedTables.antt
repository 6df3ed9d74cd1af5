-- What a change of one table makes of the store.
use Rattle.std.proofs.Common.{◌≡◌, ◌⊎◌, inl, inr, ℕ, List, [], ◌∷◌, Bool, true, false, cond, if◌then◌else◌, refl, sym, ap, subst, ◌∙◌, map, Option, Some, None, is_some, IsSome, option_map, Ordering, Less, Equal, Greater, true≢false}
use Rattle.std.specs.Prelude.{bytes_eq, unwrap_or}
use Rattle.std.specs.Global.{Vec}
use Rattle.std.specs.Ordering.{is_eq, match_ordering}
use Rattle.std.specs.Option.{option_and_then}
use Rattle.std.specs.List.{AllByRecursion}
use Rattle.std.specs.List.Sorted.{IsStrictlySortedBy}
use Rattle.std.specs.Map.{keys_of, lookup, set_value}
use Rattle.std.specs.BTreeMap.{insert_entry}
use Rattle.std.proofs.lemmas.Cmp.{nat_list_cmp_total, tied_itself}
use Rattle.std.proofs.lemmas.Map.Keys.{sorted_head, sorted_tail}
use Rattle.std.proofs.lemmas.Map.Lookups.{exact_bytes}
use Rattle.key_map.specs.Slots.{HasRoom, Slots, by_bytes, by_key, finds, rows_of, with_row}
use Rattle.key_map.proofs.RowLaws.{blank_row, get_row, put_row, row_in}
use Rattle.row_values.specs.Schema.{Schema}
use Rattle.tables.specs.Change.{create}
use Rattle.tables.specs.Tables.{Store, Table, apply, schema_of, table_of, with_table}
use Rattle.tables.proofs.Finding.{found_put, itself, same_bytes}
use Rattle.tables.proofs.Changes.{names_apart}
use Rattle.paged_tables.proofs.Pages.{IsBare, pages_added, pages_set}
use Rattle.paged_tables.specs.Stored.{KeepsPages, Stored, created_table, shown}
use Rattle.paged_tables.specs.TablesByName.{Grows, Tables, named, schema_after, schema_at, shown_entry, store_of, tables_in}

-- ---- names

test_step : (q k : List ℕ) (o : Ordering) (b : Bool) → by_bytes q k ≡ o → bytes_eq q k ≡ b → is_eq o ≡ b
test_step q k Less true is same = let tie = tied_itself nat_list_cmp_total q in absurd (not_tied (sym is ∙ ap (by_bytes q) (sym (same_bytes q k same)) ∙ tie))
  where
    not_tied : Less ≡ Equal → ⊥
    not_tied h = cc
test_step q k Less false is same = refl
test_step q k Equal true is same = refl
test_step q k Equal false is same = absurd (true≢false (sym (sym (ap (bytes_eq q) (exact_bytes q k is)) ∙ itself q) ∙ same))
test_step q k Greater true is same = let tie = tied_itself nat_list_cmp_total q in absurd (not_tied (sym is ∙ ap (by_bytes q) (sym (same_bytes q k same)) ∙ tie))
  where
    not_tied : Greater ≡ Equal → ⊥
    not_tied h = cc
test_step q k Greater false is same = refl

-- a key is found where its bytes are the same
pub key_test : (q k : List ℕ) → by_key q k ≡ bytes_eq q k
key_test q k = test_step q k (by_bytes q k) (bytes_eq q k) refl refl

pub lookup_test : {X : Type 0} (q : List ℕ) (es : List (List ℕ × X)) → lookup (by_key q) es ≡ lookup (bytes_eq q) es
lookup_test q [] = refl
lookup_test q (e ∷ es) = ap (λ b. cond b (Some e.1) (lookup (by_key q) es)) (key_test q e.0) ∙ ap (λ o. cond (bytes_eq q e.0) (Some e.1) o) (lookup_test q es)

-- ---- the tree

abbrev pub Entry : Type 0
Entry = Vec ℕ × Stored

abbrev pub cmp : Vec ℕ → Vec ℕ → Ordering
cmp x y = by_bytes x.items y.items

pub seen_named : (q : List ℕ) (es : List Entry) → named (tables_in es) q ≡ lookup (finds q) es
seen_named q [] = refl
seen_named q (e ∷ es) = ap (λ o. cond (finds q e.0) (Some e.1) o) (seen_named q es)

set_step : (b : Bool) (k : Vec ℕ) (v w : Stored) (es fs : List Entry) (ss : Tables) → tables_in fs ≡ ss → tables_in (cond b ((k, w) ∷ es) ((k, v) ∷ fs)) ≡ cond b ((k.items, w) ∷ tables_in es) ((k.items, v) ∷ ss)
set_step true k v w es fs ss h = refl
set_step false k v w es fs ss h = ap (λ (s : Tables). (k.items, v) ∷ s) h

pub seen_set : (q : List ℕ) (es : List Entry) (w : Stored) → tables_in (set_value (finds q) es w) ≡ set_value (by_key q) (tables_in es) w
seen_set q [] w = refl
seen_set q (e ∷ es) w = set_step (finds q e.0) e.0 e.1 w es (set_value (finds q) es w) (set_value (by_key q) (tables_in es) w) (seen_set q es w)

insert_step : (r : Ordering) (q k : Vec ℕ) (v w : Stored) (es fs : List Entry) (ss : Tables) → tables_in fs ≡ ss
    → tables_in (match_ordering r ((q, w) ∷ (k, v) ∷ es) ((k, w) ∷ es) ((k, v) ∷ fs)) ≡ match_ordering r ((q.items, w) ∷ (k.items, v) ∷ tables_in es) ((k.items, w) ∷ tables_in es) ((k.items, v) ∷ ss)
insert_step Less q k v w es fs ss h = refl
insert_step Equal q k v w es fs ss h = refl
insert_step Greater q k v w es fs ss h = ap (λ (s : Tables). (k.items, v) ∷ s) h

pub seen_insert : (es : List Entry) (q : Vec ℕ) (w : Stored) → tables_in (insert_entry cmp es q w) ≡ insert_entry by_bytes (tables_in es) q.items w
seen_insert [] q w = refl
seen_insert (e ∷ es) q w = insert_step (cmp q e.0) q e.0 e.1 w es (insert_entry cmp es q w) (insert_entry by_bytes (tables_in es) q.items w) (seen_insert es q w)

below_seen : (k : Vec ℕ) (es : List Entry) → AllByRecursion (λ y. cmp k y ≡ Less) (keys_of es) → AllByRecursion (λ y. by_bytes k.items y ≡ Less) (keys_of (map shown_entry (tables_in es)))
below_seen k [] h = tt
below_seen k (e ∷ es) h = (h.0, below_seen k es h.1)

-- the names rise
pub seen_order : (es : List Entry) → IsStrictlySortedBy cmp (keys_of es) → IsStrictlySortedBy by_bytes (keys_of (map shown_entry (tables_in es)))
unfolding IsStrictlySortedBy
seen_order [] h = tt
seen_order (e ∷ es) h = (below_seen e.0 es h.0, seen_order es h.1)

-- ---- what is shown

abbrev pub Rise : Tables → Type 0
Rise s = IsStrictlySortedBy by_bytes (keys_of (map shown_entry s))

shown_step : (b : Bool) (v : Stored) (o : Option Stored) (p : Option (Option Table)) → p ≡ option_map shown o → cond b (Some (shown v)) p ≡ option_map shown (cond b (Some v) o)
shown_step true v o p h = refl
shown_step false v o p h = h

shown_found : (q : List ℕ) (s : Tables) → lookup (by_key q) (map shown_entry s) ≡ option_map shown (named s q)
shown_found q [] = refl
shown_found q (e ∷ es) = shown_step (by_key q e.0) e.1 (named es q) (lookup (by_key q) (map shown_entry es)) (shown_found q es)

row_step : (o : Option Stored) → row_in (option_map shown o) ≡ option_and_then shown o
row_step None = refl
row_step (Some t) = refl

-- the table of a name, where it is created
pub table_seen : (q : List ℕ) (s : Tables) → Rise s → table_of (store_of s) q ≡ option_and_then shown (named s q)
table_seen q s up = sym (lookup_test q (store_of s)) ∙ get_row nat_list_cmp_total q (map shown_entry s) up ∙ ap row_in (shown_found q s) ∙ row_step (named s q)

set_shown_step : (b : Bool) (k : List ℕ) (v w : Stored) (es fs : Tables) (ss : List (List ℕ × Option Table)) → map shown_entry fs ≡ ss → map shown_entry (cond b ((k, w) ∷ es) ((k, v) ∷ fs)) ≡ cond b ((k, shown w) ∷ map shown_entry es) ((k, shown v) ∷ ss)
set_shown_step true k v w es fs ss h = refl
set_shown_step false k v w es fs ss h = ap (λ (s : List (List ℕ × Option Table)). (k, shown v) ∷ s) h

set_shown : (q : List ℕ) (s : Tables) (w : Stored) → map shown_entry (set_value (by_key q) s w) ≡ set_value (by_key q) (map shown_entry s) (shown w)
set_shown q [] w = refl
set_shown q (e ∷ es) w = set_shown_step (by_key q e.0) e.0 e.1 w es (set_value (by_key q) es w) (set_value (by_key q) (map shown_entry es) (shown w)) (set_shown q es w)

same_step : {X : Type 0} (b : Bool) (k : List ℕ) (v w : X) (es fs : List (List ℕ × X)) (o : Option X) → cond b (Some v) o ≡ Some w → (o ≡ Some w → fs ≡ es) → cond b ((k, w) ∷ es) ((k, v) ∷ fs) ≡ (k, v) ∷ es
same_step true k v w es fs o h more = let same : v ≡ w = cc in ap (λ x. (k, x) ∷ es) (sym same)
same_step false k v w es fs o h more = ap (λ t. (k, v) ∷ t) (more h)

set_same : {X : Type 0} (test : List ℕ → Bool) (es : List (List ℕ × X)) (w : X) → lookup test es ≡ Some w → set_value test es w ≡ es
set_same test [] w h = refl
set_same test (e ∷ es) w h = same_step (test e.0) e.0 e.1 w es (set_value test es w) (lookup test es) h (set_same test es w)

-- a table that shows what it did changes nothing
pub store_same : (q : List ℕ) (s : Tables) (t u : Stored) → named s q ≡ Some t → shown u ≡ shown t → store_of (set_value (by_key q) s u) ≡ store_of s
store_same q s t u at same =
    ap rows_of (set_shown q s u ∙ set_same (by_key q) (map shown_entry s) (shown u) (shown_found q s ∙ ap (option_map shown) at ∙ ap Some (sym same)))

-- ---- a table that is changed

with_none_step : (f : Table → Table) (e : List ℕ × Table) (o : Option Table) (es rest : Store) (b : Bool) → cond b (Some e.1) o ≡ None → (o ≡ None → es ≡ rest) → e ∷ es ≡ (if b then (e.0, f e.1) ∷ es else e ∷ rest)
with_none_step f e o es rest true h more = absurd cc
with_none_step f e o es rest false h more = ap (λ t. e ∷ t) (more h)

pub with_none : (f : Table → Table) (q : List ℕ) (es : Store) → table_of es q ≡ None → es ≡ with_table f q es
with_none f q [] h = refl
with_none f q (e ∷ es) h = with_none_step f e (table_of es q) es (with_table f q es) (bytes_eq q e.0) h (with_none f q es)

-- without the table nothing is changed
pub store_none : (f : Table → Table) (q : List ℕ) (s : Tables) → Rise s → named s q ≡ None → store_of s ≡ with_table f q (store_of s)
store_none f q s up none = with_none f q (store_of s) (table_seen q s up ∙ ap (option_and_then shown) none)

absent_step : (q k : List ℕ) (o : Option Table) (rest : Store) → by_bytes q k ≡ Less → lookup (by_key q) rest ≡ None → lookup (by_key q) (with_row k o rest) ≡ None
absent_step q k None rest below h = h
absent_step q k (Some t) rest below h = ap (λ r. cond (is_eq r) (Some t) (lookup (by_key q) rest)) below ∙ h

absent : (q : List ℕ) (s : Tables) → AllByRecursion (λ k. by_bytes q k ≡ Less) (keys_of (map shown_entry s)) → lookup (by_key q) (store_of s) ≡ None
absent q [] below = refl
absent q (e ∷ es) below = absent_step q e.0 (shown e.1) (store_of es) below.0 (absent q es below.1)

tied : (o : Ordering) → is_eq o ≡ true → o ≡ Equal
tied Less h = absurd cc
tied Equal h = refl
tied Greater h = absurd cc

here_step : (f : Table → Table) (q k : List ℕ) (o : Option Table) (rest : Store) → bytes_eq q k ≡ true → rest ≡ with_table f q rest → with_row k (option_map f o) rest ≡ with_table f q (with_row k o rest)
here_step f q k None rest is more = more
here_step f q k (Some t) rest is more = sym (ap (λ b. if b then (k, f t) ∷ rest else (k, t) ∷ with_table f q rest) is)

there_step : (f : Table → Table) (q k : List ℕ) (o : Option Table) (rest new : Store) → bytes_eq q k ≡ false → new ≡ with_table f q rest → with_row k o new ≡ with_table f q (with_row k o rest)
there_step f q k None rest new is more = more
there_step f q k (Some t) rest new is more = ap (λ l. (k, t) ∷ l) more ∙ sym (ap (λ b. if b then (k, f t) ∷ rest else (k, t) ∷ with_table f q rest) is)

changed_step : (f : Table → Table) (q k : List ℕ) (v t u : Stored) (es fs : Tables) (o : Option Stored) (b : Bool) → bytes_eq q k ≡ b → cond b (Some v) o ≡ Some t → shown u ≡ option_map f (shown t)
    → (b ≡ true → store_of es ≡ with_table f q (store_of es)) → (o ≡ Some t → store_of fs ≡ with_table f q (store_of es))
    → store_of (cond b ((k, u) ∷ es) ((k, v) ∷ fs)) ≡ with_table f q (with_row k (shown v) (store_of es))
changed_step f q k v t u es fs o true is at made behind more =
    let same : v ≡ t = cc in
    ap (λ p. with_row k p (store_of es)) (made ∙ ap (λ (w : Stored). option_map f (shown w)) (sym same)) ∙ here_step f q k (shown v) (store_of es) is (behind refl)
changed_step f q k v t u es fs o false is at made behind more = there_step f q k (shown v) (store_of es) (store_of fs) is (more at)

-- the table of a name is changed in its place
pub store_changed : (f : Table → Table) (q : List ℕ) (s : Tables) (t u : Stored) → Rise s → named s q ≡ Some t → shown u ≡ option_map f (shown t) → store_of (set_value (by_key q) s u) ≡ with_table f q (store_of s)
store_changed f q [] t u up at made = refl
store_changed f q (e ∷ es) t u up at made =
    changed_step f q e.0 e.1 t u es (set_value (by_key q) es u) (named es q) (by_key q e.0) (sym (key_test q e.0)) at made
    (λ here. with_none f q (store_of es)
    (sym (lookup_test q (store_of es)) ∙ absent q es
    (subst (λ (k : List ℕ). AllByRecursion (λ l. by_bytes k l ≡ Less) (keys_of (map shown_entry es))) (sym (exact_bytes q e.0 (tied (by_bytes q e.0) here))) (sorted_head by_bytes e.0 (keys_of (map shown_entry es)) up))))
    (λ there. store_changed f q es t u (sorted_tail by_bytes e.0 (keys_of (map shown_entry es)) up) there made)

-- ---- a table that is created

abbrev pub fresh : Schema → Table
fresh schema = record { schema = schema; rows = [] }

create_by : (q : List ℕ) (schema : Schema) (s : Tables) (new : Store) (t : Stored) (o : Option Table) → table_of (store_of s) q ≡ o → (o ≡ None → new ≡ insert_entry by_bytes (store_of s) q (fresh schema)) → ((x : Table) → o ≡ Some x → new ≡ store_of s)
    → new ≡ (if is_some o then store_of s else insert_entry by_bytes (store_of s) q (fresh schema))
create_by q schema s new t None is made same = made refl
create_by q schema s new t (Some x) is made same = same x refl

name_room : (q : List ℕ) (s : Tables) (t : Stored) → named s q ≡ Some t → IsSome (lookup (by_key q) (map shown_entry s))
name_room q s t at = ap is_some (shown_found q s ∙ ap (option_map shown) at)

pub store_created : (q : List ℕ) (schema : Schema) (s : Tables) (t u : Stored) → Rise s → named s q ≡ Some t → shown u ≡ Some (created_table t) → (schema_of (store_of s) q ≡ None → t.schema ≡ schema)
    → store_of (set_value (by_key q) s u) ≡ apply (create q schema) (store_of s)
store_created q schema s t u up at made good =
    let seen : table_of (store_of s) q ≡ shown t = table_seen q s up ∙ ap (option_and_then shown) at in
    create_by q schema s (store_of (set_value (by_key q) s u)) t (table_of (store_of s) q) refl
    (λ none.
    ap rows_of (set_shown q s u ∙ ap (set_value (by_key q) (map shown_entry s)) made)
    ∙ put_row nat_list_cmp_total exact_bytes q (created_table t) (map shown_entry s) up (name_room q s t at)
    ∙ ap (insert_entry by_bytes (store_of s) q)
    (ap (λ o. unwrap_or o (fresh t.schema)) (sym seen ∙ none) ∙ ap fresh (good (ap (option_map (λ (x : Table). x.schema)) none))))
    (λ x is. store_same q s t u at (made ∙ ap (λ o. Some (unwrap_or o (fresh t.schema))) (sym seen ∙ is) ∙ sym is ∙ seen))

-- ---- a table that is held ready

insert_shown : (s : Tables) (q : List ℕ) (t : Stored) → map shown_entry (insert_entry by_bytes s q t) ≡ insert_entry by_bytes (map shown_entry s) q (shown t)
insert_shown [] q t = refl
insert_shown (e ∷ es) q t = insert_shown_step (by_bytes q e.0) e (insert_entry by_bytes es q t) (insert_entry by_bytes (map shown_entry es) q (shown t)) (insert_shown es q t)
  where
    insert_shown_step : (o : Ordering) (e : List ℕ × Stored) (fs : Tables) (ss : List (List ℕ × Option Table)) → map shown_entry fs ≡ ss
        → map shown_entry (match_ordering o ((q, t) ∷ e ∷ es) ((e.0, t) ∷ es) (e ∷ fs)) ≡ match_ordering o ((q, shown t) ∷ shown_entry e ∷ map shown_entry es) ((e.0, shown t) ∷ map shown_entry es) (shown_entry e ∷ ss)
    insert_shown_step Less e fs ss h = refl
    insert_shown_step Equal e fs ss h = refl
    insert_shown_step Greater e fs ss h = ap (λ (l : List (List ℕ × Option Table)). shown_entry e ∷ l) h

pub store_readied : (q : List ℕ) (s : Tables) (t : Stored) → named s q ≡ None → shown t ≡ None → store_of (insert_entry by_bytes s q t) ≡ store_of s
store_readied q s t none hidden =
    ap rows_of (insert_shown s q t ∙ ap (insert_entry by_bytes (map shown_entry s) q) hidden)
    ∙ blank_row nat_list_cmp_total q (map shown_entry s) (shown_found q s ∙ ap (option_map shown) none)

pub named_readied : (q : List ℕ) (s : Tables) (name : List ℕ) (t : Stored) → named (insert_entry by_bytes s name t) q ≡ cond (bytes_eq q name) (Some t) (named s q)
named_readied q s name t =
    lookup_test q (insert_entry by_bytes s name t) ∙ found_put by_bytes names_apart q name t s ∙ ap (λ o. cond (bytes_eq q name) (Some t) o) (sym (lookup_test q s))

-- ---- room

set_finds_step : (b c : Bool) (k : List ℕ) (v t u : Stored) (o p r : Option Stored) → cond b (Some v) o ≡ Some t → (o ≡ Some t → ((p ≡ Some u) × (r ≡ Some t)) ⊎ (p ≡ r))
    → ((cond c (cond b (Some u) (Some v)) (cond b r p) ≡ Some u) × (cond c (Some v) r ≡ Some t)) ⊎ (cond c (cond b (Some u) (Some v)) (cond b r p) ≡ cond c (Some v) r)
set_finds_step true true k v t u o p r at more = inl (refl, at)
set_finds_step true false k v t u o p r at more = inr refl
set_finds_step false true k v t u o p r at more = inr refl
set_finds_step false false k v t u o p r at more = more at

head_step : (b c : Bool) (k : List ℕ) (v u : Stored) (es fs : Tables) (test : List ℕ → Bool) → test k ≡ c → lookup test (cond b ((k, u) ∷ es) ((k, v) ∷ fs)) ≡ cond c (cond b (Some u) (Some v)) (cond b (lookup test es) (lookup test fs))
head_step true c k v u es fs test is = ap (λ d. cond d (Some u) (lookup test es)) is
head_step false c k v u es fs test is = ap (λ d. cond d (Some v) (lookup test fs)) is

-- what is found after one table was changed: that table, or what was found before
set_finds : (q p : List ℕ) (s : Tables) (t u : Stored) → named s q ≡ Some t → ((named (set_value (by_key q) s u) p ≡ Some u) × (named s p ≡ Some t)) ⊎ (named (set_value (by_key q) s u) p ≡ named s p)
set_finds q p [] t u at = inr refl
set_finds q p (e ∷ es) t u at =
    let eq = head_step (by_key q e.0) (by_key p e.0) e.0 e.1 u es (set_value (by_key q) es u) (by_key p) refl in
    subst (λ (o : Option Stored). ((o ≡ Some u) × (named (e ∷ es) p ≡ Some t)) ⊎ (o ≡ named (e ∷ es) p)) (sym eq)
    (set_finds_step (by_key q e.0) (by_key p e.0) e.0 e.1 t u (named es q) (named (set_value (by_key q) es u) p) (named es p) at (set_finds q p es t u))

schema_by : (o p : Option Stored) (t u : Stored) → u.schema ≡ t.schema → ((o ≡ Some u) × (p ≡ Some t)) ⊎ (o ≡ p) → option_map (λ (x : Stored). x.schema) o ≡ option_map (λ (x : Stored). x.schema) p
schema_by o p t u same (inl h) = ap (option_map (λ (x : Stored). x.schema)) h.0 ∙ ap Some same ∙ sym (ap (option_map (λ (x : Stored). x.schema)) h.1)
schema_by o p t u same (inr h) = ap (option_map (λ (x : Stored). x.schema)) h

abbrev slots_in : Option Stored → Slots
slots_in o = unwrap_or (option_map (λ (x : Stored). x.changes) o) []

room_by : (o p : Option Stored) (t u : Stored) (form : List ℕ) → ((q : List ℕ) → HasRoom q t.changes → HasRoom q u.changes) → ((o ≡ Some u) × (p ≡ Some t)) ⊎ (o ≡ p) → HasRoom form (slots_in p) → HasRoom form (slots_in o)
room_by o p t u form more (inl h) room = subst (λ (x : Option Stored). HasRoom form (slots_in x)) (sym h.0) (more form (subst (λ (x : Option Stored). HasRoom form (slots_in x)) h.1 room))
room_by o p t u form more (inr h) room = subst (λ (x : Option Stored). HasRoom form (slots_in x)) (sym h) room

-- the schemas stay
pub schemas_set : (q : List ℕ) (s : Tables) (t u : Stored) → named s q ≡ Some t → u.schema ≡ t.schema → (p : List ℕ) → schema_at (set_value (by_key q) s u) p ≡ schema_at s p
schemas_set q s t u at same p = schema_by (named (set_value (by_key q) s u) p) (named s p) t u same (set_finds q p s t u at)

pub grows_set : (q : List ℕ) (s : Tables) (t u : Stored) → named s q ≡ Some t → KeepsPages t u → ((p : List ℕ) → HasRoom p t.changes → HasRoom p u.changes) → Grows s (set_value (by_key q) s u)
grows_set q s t u at keeps more = record {
  rooms = λ name form room. room_by (named (set_value (by_key q) s u) name) (named s name) t u form more (set_finds q name s t u at) room;
  schemas = λ name schema is. schemas_set q s t u at keeps.schema name ∙ is;
  pages = pages_set q s t u at keeps;
}

ready_rooms : (b : Bool) (t : Stored) (o : Option Stored) (form : List ℕ) → (b ≡ true → o ≡ None) → HasRoom form (slots_in o) → HasRoom form (slots_in (cond b (Some t) o))
ready_rooms true t o form none room = absurd (no_room form (subst (λ (x : Option Stored). HasRoom form (slots_in x)) (none refl) room))
  where
    no_room : (form : List ℕ) → HasRoom form [] → ⊥
    no_room form h = true≢false (sym h)
ready_rooms false t o form none room = room

ready_schemas : (b : Bool) (t : Stored) (o : Option Stored) (schema : Schema) → (b ≡ true → o ≡ None) → option_map (λ (x : Stored). x.schema) o ≡ Some schema → option_map (λ (x : Stored). x.schema) (cond b (Some t) o) ≡ Some schema
ready_schemas true t o schema none is = absurd (none_is schema (sym (ap (option_map (λ (x : Stored). x.schema)) (none refl)) ∙ is))
  where
    none_is : (x : Schema) → None ≡ Some x → ⊥
    none_is x h = cc
ready_schemas false t o schema none is = is

none_there : (q name : List ℕ) (s : Tables) → named s name ≡ None → bytes_eq q name ≡ true → named s q ≡ None
none_there q name s none is = ap (named s) (same_bytes q name is) ∙ none

pub grows_readied : (name : List ℕ) (s : Tables) (t : Stored) → named s name ≡ None → IsBare t → Grows s (insert_entry by_bytes s name t)
grows_readied name s t none bare = record {
  rooms = λ q form room. subst (λ (o : Option Stored). HasRoom form (slots_in o)) (sym (named_readied q s name t)) (ready_rooms (bytes_eq q name) t (named s q) form (none_there q name s none) room);
  schemas = λ q schema is. ap (option_map (λ (x : Stored). x.schema)) (named_readied q s name t) ∙ ready_schemas (bytes_eq q name) t (named s q) schema (none_there q name s none) is;
  pages = pages_added name s t bare;
}

after_step : (b : Bool) (t : Stored) (o n : Option Stored) (schema : Schema) → n ≡ None → t.schema ≡ schema → option_map (λ (x : Stored). x.schema) (cond b (Some t) o) ≡ (if b then Some (unwrap_or (option_map (λ (x : Stored). x.schema) n) schema) else option_map (λ (x : Stored). x.schema) o)
after_step true t o n schema none is = ap Some is ∙ sym (ap (λ m. Some (unwrap_or (option_map (λ (x : Stored). x.schema) m) schema)) none)
after_step false t o n schema none is = refl

pub schemas_readied : (name : List ℕ) (schema : Schema) (s : Tables) (t : Stored) → named s name ≡ None → t.schema ≡ schema → (q : List ℕ) → schema_at (insert_entry by_bytes s name t) q ≡ schema_after (create name schema) s q
schemas_readied name schema s t none is q = ap (option_map (λ (x : Stored). x.schema)) (named_readied q s name t) ∙ after_step (bytes_eq q name) t (named s q) (named s name) schema none is

known_step : (b : Bool) (o n : Option Stored) (schema : Schema) (t : Stored) → n ≡ Some t → (b ≡ true → o ≡ n) → option_map (λ (x : Stored). x.schema) o ≡ (if b then Some (unwrap_or (option_map (λ (x : Stored). x.schema) n) schema) else option_map (λ (x : Stored). x.schema) o)
known_step true o n schema t is same = ap (option_map (λ (x : Stored). x.schema)) (same refl ∙ is) ∙ sym (ap (λ m. Some (unwrap_or (option_map (λ (x : Stored). x.schema) m) schema)) is)
known_step false o n schema t is same = refl

pub schemas_known : (name : List ℕ) (schema : Schema) (s : Tables) (t : Stored) → named s name ≡ Some t → (q : List ℕ) → schema_at s q ≡ schema_after (create name schema) s q
schemas_known name schema s t is q = known_step (bytes_eq q name) (named s q) (named s name) schema t is (λ same. ap (named s) (same_bytes q name same))
