-- What is done to one table of the tree, seen at the tables by their names.
use Rattle.std.proofs.Common.{◌≡◌, ◌+◌, suc, length, arith, ℕ, List, [], ◌∷◌, Bool, true, false, refl, sym, ap, subst, ◌∙◌, Option, Some, None, is_some, option_map, cond, if◌then◌else◌, filter, IfOk, OnOk, Result, Ok, Err}
use Rattle.std.specs.Prelude.{bytes_eq, count_by, unwrap_or}
use Rattle.std.specs.Global.{Vec}
use Rattle.std.proofs.lemmas.List.Sums.{sum_by-cons}
use Rattle.std.specs.Option.{option_and_then}
use Rattle.std.specs.List.Sorted.{IsStrictlySortedBy}
use Rattle.std.specs.Map.{keys_of, lookup, set_value, values_of}
use Rattle.std.specs.BTreeMap.{insert_entry}
use Rattle.key_map.specs.Slots.{HasRoom, by_bytes, by_key, finds, with_row}
use Rattle.row_values.specs.Schema.{Schema}
use Rattle.tables.specs.Change.{Change, create, is_change, put, remove}
use Rattle.tables.specs.View.{is_sound}
use Rattle.tables.proofs.Finding.{itself}
use Rattle.tables.specs.Tables.{Store, Table, apply, remove_row, schema_of, table_of, with_table}
use Rattle.paged_tables.specs.Stored.{FormsKey, FormsRow, HasRoomFor, KeepsPages, Stored, created_table, shown, table_in}
use Rattle.paged_tables.specs.TablesByName.{Grows, IsReady, PagesStay, Tables, entry_of, is_created, named, schema_after, schema_at, slots_at, store_of, tables_in}
use Rattle.paged_tables.proofs.Pages.{IsBare, pages_set}
use Rattle.paged_tables.proofs.NamedTables.{Entry, cmp, grows_readied, grows_set, schemas_known, schemas_readied, schemas_set, seen_insert, seen_named, seen_order, seen_set, store_changed, store_created, store_none, store_readied, store_same, table_seen}

-- the schema of a table that is shown
shown_schema : (b : Bool) (t : Table) → b ≡ true → option_map (λ (x : Table). x.schema) (cond b (Some t) None) ≡ Some t.schema
shown_schema true t h = refl
shown_schema false t h = absurd cc

module _ (es : List Entry) (q : List ℕ) where
  pub found : (t : Stored) → Some t ≡ lookup (finds q) es → named (tables_in es) q ≡ Some t
  found t h = seen_named q es ∙ sym h

  pub none : None ≡ lookup (finds q) es → named (tables_in es) q ≡ None
  none h = seen_named q es ∙ sym h

  pub schema_found : (t : Stored) → Some t ≡ lookup (finds q) es → schema_at (tables_in es) q ≡ Some t.schema
  schema_found t h = ap (option_map (λ (x : Stored). x.schema)) (found t h)

  written : (u : Stored) (fs : List Entry) → fs ≡ set_value (finds q) es u → tables_in fs ≡ set_value (by_key q) (tables_in es) u
  written u fs is = ap tables_in is ∙ seen_set q es u

  pub grows_written : (t u : Stored) (fs : List Entry) → Some t ≡ lookup (finds q) es → fs ≡ set_value (finds q) es u → KeepsPages t u → ((p : List ℕ) → HasRoom p t.changes → HasRoom p u.changes) → Grows (tables_in es) (tables_in fs)
  grows_written t u fs at is same more = subst (λ (s : Tables). Grows (tables_in es) s) (sym (written u fs is)) (grows_set q (tables_in es) t u (found t at) same more)

  pub schemas_written : (t u : Stored) (fs : List Entry) → Some t ≡ lookup (finds q) es → fs ≡ set_value (finds q) es u → u.schema ≡ t.schema → (p : List ℕ) → schema_at (tables_in fs) p ≡ schema_at (tables_in es) p
  schemas_written t u fs at is same p = ap (λ (s : Tables). schema_at s p) (written u fs is) ∙ schemas_set q (tables_in es) t u (found t at) same p

  pub pages_written : (t u : Stored) (fs : List Entry) → Some t ≡ lookup (finds q) es → fs ≡ set_value (finds q) es u → KeepsPages t u → PagesStay (tables_in es) (tables_in fs)
  pages_written t u fs at is keeps = subst (λ (s : Tables). PagesStay (tables_in es) s) (sym (written u fs is)) (pages_set q (tables_in es) t u (found t at) keeps)

  pub same_written : (t u : Stored) (fs : List Entry) → Some t ≡ lookup (finds q) es → fs ≡ set_value (finds q) es u → shown u ≡ shown t → store_of (tables_in fs) ≡ store_of (tables_in es)
  same_written t u fs at is same = ap store_of (written u fs is) ∙ store_same q (tables_in es) t u (found t at) same

  module _ (up : IsStrictlySortedBy cmp (keys_of es)) where
    pub changed_written : (f : Table → Table) (t u : Stored) (fs : List Entry) → Some t ≡ lookup (finds q) es → fs ≡ set_value (finds q) es u → shown u ≡ option_map f (shown t) → store_of (tables_in fs) ≡ with_table f q (store_of (tables_in es))
    changed_written f t u fs at is made = ap store_of (written u fs is) ∙ store_changed f q (tables_in es) t u (seen_order es up) (found t at) made

    pub none_written : (f : Table → Table) (fs : List Entry) → None ≡ lookup (finds q) es → fs ≡ es → store_of (tables_in fs) ≡ with_table f q (store_of (tables_in es))
    none_written f fs at is = ap (λ (l : List Entry). store_of (tables_in l)) is ∙ store_none f q (tables_in es) (seen_order es up) (none at)

    seen_shown : (t : Stored) → Some t ≡ lookup (finds q) es → table_of (store_of (tables_in es)) q ≡ shown t
    seen_shown t at = table_seen q (tables_in es) (seen_order es up) ∙ ap (option_and_then shown) (found t at)

    -- what a created table is known by
    pub schema_seen : (t : Stored) → Some t ≡ lookup (finds q) es → t.is_created ≡ true → schema_of (store_of (tables_in es)) q ≡ Some t.schema
    schema_seen t at here = ap (option_map (λ (x : Table). x.schema)) (seen_shown t at) ∙ shown_schema t.is_created (record { schema = t.schema; rows = _ }) here

    ready_schema : (t : Stored) (schema : Schema) → Some t ≡ lookup (finds q) es → IsReady (create q schema) None (store_of (tables_in es)) (tables_in es) → schema_of (store_of (tables_in es)) q ≡ None → t.schema ≡ schema
    ready_schema t schema at ready new = let e : Some t.schema ≡ Some schema = sym (schema_found t at) ∙ ready new in cc

    pub created_written : (schema : Schema) (t u : Stored) (fs : List Entry) → Some t ≡ lookup (finds q) es → fs ≡ set_value (finds q) es u → shown u ≡ Some (created_table t) → IsReady (create q schema) None (store_of (tables_in es)) (tables_in es)
        → store_of (tables_in fs) ≡ apply (create q schema) (store_of (tables_in es))
    created_written schema t u fs at is made ready = ap store_of (written u fs is) ∙ store_created q schema (tables_in es) t u (seen_order es up) (found t at) made (ready_schema t schema at ready)

    none_shown : None ≡ lookup (finds q) es → table_of (store_of (tables_in es)) q ≡ None
    none_shown at = table_seen q (tables_in es) (seen_order es up) ∙ ap (option_and_then shown) (none at)

    -- a creation that is ready has its table
    pub not_created : {A : Type 0} (schema : Schema) → None ≡ lookup (finds q) es → IsReady (create q schema) None (store_of (tables_in es)) (tables_in es) → A
    not_created schema at ready =
        absurd (none_is schema (sym (ap (option_map (λ (x : Stored). x.schema)) (none at)) ∙ ready (ap (option_map (λ (x : Table). x.schema)) (none_shown at))))
      where
        none_is : (x : Schema) → None ≡ Some x → ⊥
        none_is x h = cc

    pub form_ready : (row : List ℕ) (form : Option (List ℕ)) (t : Stored) → IsReady (put q row) form (store_of (tables_in es)) (tables_in es) → Some t ≡ lookup (finds q) es → t.is_created ≡ true → FormsRow t.schema row form
    form_ready row form t ready at here = (ready t.schema (schema_seen t at here)).0

    pub room_ready : (row : List ℕ) (form : Option (List ℕ)) (t : Stored) → IsReady (put q row) form (store_of (tables_in es)) (tables_in es) → Some t ≡ lookup (finds q) es → t.is_created ≡ true → HasRoomFor t.changes form
    room_ready row form t ready at here =
        subst (λ (o : Option Stored). HasRoomFor (unwrap_or (option_map (λ (x : Stored). x.changes) o) []) form) (found t at) (ready t.schema (schema_seen t at here)).1

    -- the room of a change that is ready, of a table that is created
    pub room_there : (form : Option (List ℕ)) (t : Stored) → ((schema : Schema) → schema_of (store_of (tables_in es)) q ≡ Some schema → HasRoomFor (slots_at (tables_in es) q) form) → Some t ≡ lookup (finds q) es → t.is_created ≡ true → HasRoomFor t.changes form
    room_there form t room at here =
        subst (λ (o : Option Stored). HasRoomFor (unwrap_or (option_map (λ (x : Stored). x.changes) o) []) form) (found t at) (room t.schema (schema_seen t at here))

    -- ---- removal, of a table that is created or not

    taken_by : (key : List ℕ) (form : Option (List ℕ)) (t u : Stored) (b : Bool) → t.is_created ≡ b → IsReady (remove q key) form (store_of (tables_in es)) (tables_in es) → Some t ≡ lookup (finds q) es
        → (FormsKey t.schema key form → shown u ≡ option_map (remove_row key) (shown t)) → (b ≡ false → shown u ≡ option_map (remove_row key) (shown t)) → shown u ≡ option_map (remove_row key) (shown t)
    taken_by key form t u true is ready at made hidden = made (ready t.schema (schema_seen t at is)).0
    taken_by key form t u false is ready at made hidden = hidden refl

    pub removed_written : (key : List ℕ) (form : Option (List ℕ)) (t u : Stored) (fs : List Entry) → IsReady (remove q key) form (store_of (tables_in es)) (tables_in es) → Some t ≡ lookup (finds q) es → fs ≡ set_value (finds q) es u
        → (FormsKey t.schema key form → shown u ≡ option_map (remove_row key) (shown t)) → (t.is_created ≡ false → shown u ≡ None) → store_of (tables_in fs) ≡ apply (remove q key) (store_of (tables_in es))
    removed_written key form t u fs ready at is made hidden =
        changed_written (remove_row key) t u fs at is
        (taken_by key form t u t.is_created refl ready at made (λ no_table. hidden no_table ∙ sym (hidden_shown t.is_created (record { schema = t.schema; rows = _ }) no_table)))
      where
        hidden_shown : (b : Bool) (x : Table) → b ≡ false → option_map (remove_row key) (cond b (Some x) None) ≡ None
        hidden_shown true x h = absurd cc
        hidden_shown false x h = refl

    -- ---- a table that is held ready

    none_from : {A : Type 0} (o : Option A) → is_some o ≡ false → o ≡ None
    none_from None h = refl
    none_from (Some v) h = absurd cc

    pub not_there : (b : Bool) → b ≡ is_some (lookup (finds q) es) → b ≡ false → named (tables_in es) q ≡ None
    not_there b at is = seen_named q es ∙ none_from (lookup (finds q) es) (sym at ∙ is)

    some_from : {A : Type 0} (o : Option A) → is_some o ≡ true → (x : A) × (o ≡ Some x)
    some_from None h = absurd cc
    some_from (Some v) h = (v, refl)

    pub still_known : (schema : Schema) (b : Bool) → b ≡ is_some (lookup (finds q) es) → b ≡ true → (p : List ℕ) → schema_at (tables_in es) p ≡ schema_after (create q schema) (tables_in es) p
    still_known schema b at is p = let t = some_from (lookup (finds q) es) (sym at ∙ is) in schemas_known q schema (tables_in es) t.0 (seen_named q es ∙ t.1) p

    module _ (k : Vec ℕ) (same : k.items ≡ q) (t : Stored) (fs : List Entry) (is : fs ≡ insert_entry cmp es k t) (b : Bool) (at : b ≡ is_some (lookup (finds q) es)) (no_table : b ≡ false) where
      added : tables_in fs ≡ insert_entry by_bytes (tables_in es) q t
      added = ap tables_in is ∙ seen_insert es k t ∙ ap (λ (n : List ℕ). insert_entry by_bytes (tables_in es) n t) same

      pub store_added : shown t ≡ None → store_of (tables_in fs) ≡ store_of (tables_in es)
      store_added hidden = ap store_of added ∙ store_readied q (tables_in es) t (not_there b at no_table) hidden

      pub grows_added : IsBare t → Grows (tables_in es) (tables_in fs)
      grows_added bare = subst (λ (s : Tables). Grows (tables_in es) s) (sym added) (grows_readied q (tables_in es) t (not_there b at no_table) bare)

      pub schemas_added : (schema : Schema) → t.schema ≡ schema → (p : List ℕ) → schema_at (tables_in fs) p ≡ schema_after (create q schema) (tables_in es) p
      schemas_added schema one p = ap (λ (s : Tables). schema_at s p) added ∙ schemas_readied q schema (tables_in es) t (not_there b at no_table) one p

-- ---- a reservation that may have failed

pub if_ok : {X E : Type 0} (r : Result X E) (P Q : X → Type 0) → ((x : X) → P x → Q x) → IfOk r P → IfOk r Q
if_ok (Ok x) P Q f h = f x h
if_ok (Err e) P Q f h = tt

set_here_step : (b : Bool) (v t u : Stored) (o p : Option Stored) → cond b (Some v) o ≡ Some t → (o ≡ Some t → p ≡ Some u) → cond b (Some u) p ≡ Some u
set_here_step true v t u o p h more = refl
set_here_step false v t u o p h more = more h

head_step : (b c : Bool) (k : List ℕ) (v u : Stored) (es fs : Tables) (test : List ℕ → Bool) → test k ≡ b → c ≡ b → lookup test (cond b ((k, u) ∷ es) ((k, v) ∷ fs)) ≡ cond b (Some u) (lookup test fs)
head_step true c k v u es fs test is same = ap (λ d. cond d (Some u) (lookup test es)) is
head_step false c k v u es fs test is same = ap (λ d. cond d (Some v) (lookup test fs)) is

-- the changed table is found
set_here : (test : List ℕ → Bool) (s : Tables) (t u : Stored) → lookup test s ≡ Some t → lookup test (set_value test s u) ≡ Some u
set_here test [] t u h = absurd cc
set_here test (e ∷ es) t u h =
    head_step (test e.0) (test e.0) e.0 e.1 u es (set_value test es u) test refl refl
    ∙ set_here_step (test e.0) e.1 t u (lookup test es) (lookup test (set_value test es u)) h (set_here test es t u)

module _ (es : List Entry) (q : List ℕ) where
  pub schema_is : (t : Stored) (schema : Schema) → Some t ≡ lookup (finds q) es → schema_at (tables_in es) q ≡ Some schema → t.schema ≡ schema
  schema_is t schema at is = let e : Some t.schema ≡ Some schema = sym (schema_found es q t at) ∙ is in cc

  pub no_schema : {A : Type 0} (schema : Schema) → None ≡ lookup (finds q) es → schema_at (tables_in es) q ≡ Some schema → A
  no_schema schema at is = absurd (none_is schema (sym (ap (option_map (λ (x : Stored). x.schema)) (none es q at)) ∙ is))
    where
      none_is : (x : Schema) → None ≡ Some x → ⊥
      none_is x h = cc

  -- the room that was made in a table
  pub room_written : (t u : Stored) (fs : List Entry) (form : Option (List ℕ)) → Some t ≡ lookup (finds q) es → fs ≡ set_value (finds q) es u → HasRoomFor u.changes form → HasRoomFor (slots_at (tables_in fs) q) form
  room_written t u fs form at is room =
      subst (λ (o : Option Stored). HasRoomFor (unwrap_or (option_map (λ (x : Stored). x.changes) o) []) form)
      (sym (ap (λ (s : Tables). named s q) (ap tables_in is ∙ seen_set q es u) ∙ set_here (by_key q) (tables_in es) t u (found es q t at))) room

-- ---- what is seen of a created table

module _ (es : List Entry) (q : List ℕ) (up : IsStrictlySortedBy cmp (keys_of es)) where
  seen : (o : Option Stored) → o ≡ named (tables_in es) q → table_of (store_of (tables_in es)) q ≡ option_and_then shown o
  seen o at = table_seen q (tables_in es) (seen_order es up) ∙ ap (option_and_then shown) (sym at)

  shown_here : (b : Bool) (t : Table) → b ≡ true → cond b (Some t) None ≡ Some t
  shown_here true t h = refl
  shown_here false t h = absurd cc

  shown_not : (b : Bool) (t : Table) → b ≡ false → cond b (Some t) None ≡ None
  shown_not true t h = absurd cc
  shown_not false t h = refl

  pub created_seen : (t : Stored) → Some t ≡ named (tables_in es) q → t.is_created ≡ true → Some (table_in t) ≡ table_of (store_of (tables_in es)) q
  created_seen t at here = sym (seen (Some t) at ∙ shown_here t.is_created (table_in t) here)

  pub hidden_seen : (t : Stored) → Some t ≡ named (tables_in es) q → t.is_created ≡ false → None ≡ table_of (store_of (tables_in es)) q
  hidden_seen t at here = sym (seen (Some t) at ∙ shown_not t.is_created (table_in t) here)

  pub none_seen : None ≡ named (tables_in es) q → None ≡ table_of (store_of (tables_in es)) q
  none_seen at = sym (seen None at)

-- ---- tables that are held ready are given up

kept_entries_step : (b : Bool) (e : Entry) (es : List Entry) (fs : Tables) → tables_in es ≡ fs → tables_in (cond b (e ∷ es) es) ≡ cond b (entry_of e ∷ fs) fs
kept_entries_step true e es fs h = ap (λ (s : Tables). entry_of e ∷ s) h
kept_entries_step false e es fs h = h

pub kept_entries : (es : List Entry) → tables_in (filter (λ (e : Entry). e.1.is_created) es) ≡ filter is_created (tables_in es)
kept_entries [] = refl
kept_entries (e ∷ es) = kept_entries_step e.1.is_created e (filter (λ (d : Entry). d.1.is_created) es) (filter is_created (tables_in es)) (kept_entries es)

kept_step : (b : Bool) (k : List ℕ) (t : Stored) (es fs : Tables) → t.is_created ≡ b → store_of fs ≡ store_of es → store_of (cond b ((k, t) ∷ fs) fs) ≡ with_row k (shown t) (store_of es)
kept_step true k t es fs is h = ap (with_row k (shown t)) h
kept_step false k t es fs is h = h ∙ sym (ap (λ c. with_row k (cond c (Some (table_in t)) None) (store_of es)) is)

pub store_kept : (s : Tables) → store_of (filter is_created s) ≡ store_of s
store_kept [] = refl
store_kept (e ∷ es) = kept_step e.1.is_created e.0 e.1 es (filter is_created es) refl (store_kept es)

abbrev pub IsShown : Option Stored → Type 0
IsShown None = Unit {0}
IsShown (Some t) = t.is_created ≡ true

shown_by : (c : Bool) (t : Stored) (o : Option Stored) → t.is_created ≡ true → IsShown o → IsShown (cond c (Some t) o)
shown_by true t o is h = is
shown_by false t o is h = h

named_step : (b : Bool) (q k : List ℕ) (t : Stored) (fs : Tables) → t.is_created ≡ b → IsShown (named fs q) → IsShown (named (cond b ((k, t) ∷ fs) fs) q)
named_step true q k t fs is h = shown_by (by_key q k) t (named fs q) is h
named_step false q k t fs is h = h

pub named_kept : (q : List ℕ) (s : Tables) → IsShown (named (filter is_created s) q)
named_kept q [] = tt
named_kept q (e ∷ es) = named_step e.1.is_created q e.0 e.1 (filter is_created es) refl (named_kept q es)

all_shown : (o : Option Stored) → IsShown o → option_map (λ (t : Stored). t.schema) o ≡ option_map (λ (t : Table). t.schema) (option_and_then shown o)
all_shown None h = refl
all_shown (Some t) h = sym (shown_schema t.is_created (table_in t) h)

pub none_held : (es : List Entry) (s : Tables) → IsStrictlySortedBy cmp (keys_of es) → tables_in es ≡ filter is_created s → (q : List ℕ) → schema_at (tables_in es) q ≡ schema_of (store_of (tables_in es)) q
none_held es s up kept q =
    all_shown (named (tables_in es) q) (subst (λ (t : Tables). IsShown (named t q)) (sym kept) (named_kept q s))
    ∙ sym (ap (option_map (λ (t : Table). t.schema)) (table_seen q (tables_in es) (seen_order es up)))

-- ---- changes

pub if_both : {X E : Type 0} (r : Result X E) (P Q R : X → Type 0) → ((x : X) → P x → Q x → R x) → IfOk r P → IfOk r Q → IfOk r R
if_both (Ok x) P Q R f h g = f x h g
if_both (Err e) P Q R f h g = tt

pub always_ok : {X E : Type 0} (r : Result X E) (P : Type 0) → P → OnOk r P
always_ok (Ok x) P h = h
always_ok (Err e) P h = tt

ready_here : (b : Bool) (schema : Schema) (o p : Option Schema) → b ≡ true → o ≡ None → (if b then Some (unwrap_or o schema) else p) ≡ Some schema
ready_here true schema o p is no_schema_yet = ap (λ x. Some (unwrap_or x schema)) no_schema_yet
ready_here false schema o p is no_schema_yet = absurd cc

-- a creation whose table is held ready
pub ready_create : (name lent : List ℕ) (schema : Schema) (store : Store) (old new : Tables) → lent ≡ name → ((q : List ℕ) → schema_at new q ≡ schema_after (create lent schema) old q) → ((q : List ℕ) → schema_of store q ≡ schema_at old q) → IsReady (create name schema) None store new
ready_create name lent schema store old new same schemas known = λ no_table.
    schemas name ∙ ready_here (bytes_eq name lent) schema (schema_at old lent) (schema_at old name) (ap (bytes_eq name) same ∙ itself name) (sym (known lent) ∙ ap (schema_of store) same ∙ no_table)

ready_at : (name row : List ℕ) (form : Option (List ℕ)) (store : Store) (old new : Tables) → ((q : List ℕ) → schema_of store q ≡ schema_at old q)
    → ((schema : Schema) → schema_at old name ≡ Some schema → FormsRow schema row form) → ((schema : Schema) → schema_at old name ≡ Some schema → HasRoomFor (slots_at new name) form) → IsReady (put name row) form store new
ready_at name row form store old new known formed room = λ schema is. (formed schema (sym (known name) ∙ is), room schema (sym (known name) ∙ is))

removed_at : (name key : List ℕ) (form : Option (List ℕ)) (store : Store) (old new : Tables) → ((q : List ℕ) → schema_of store q ≡ schema_at old q)
    → ((schema : Schema) → schema_at old name ≡ Some schema → FormsKey schema key form) → ((schema : Schema) → schema_at old name ≡ Some schema → HasRoomFor (slots_at new name) form) → IsReady (remove name key) form store new
removed_at name key form store old new known formed room = λ schema is. (formed schema (sym (known name) ∙ is), room schema (sym (known name) ∙ is))

-- a removal that has its room
pub ready_remove : (name lent key read : List ℕ) (form : Option (List ℕ)) (store : Store) (old new : Tables) → lent ≡ name → read ≡ key → ((q : List ℕ) → schema_of store q ≡ schema_at old q)
    → ((schema : Schema) → schema_at old lent ≡ Some schema → FormsKey schema read form) → ((schema : Schema) → schema_at old lent ≡ Some schema → HasRoomFor (slots_at new lent) form) → IsReady (remove name key) form store new
ready_remove name lent key read form store old new same same_key known formed room =
    subst (λ (n : List ℕ). IsReady (remove n key) form store new) same (subst (λ (k : List ℕ). IsReady (remove lent k) form store new) same_key (removed_at lent read form store old new known formed room))

-- a row that has its room
pub ready_put : (name lent row read : List ℕ) (form : Option (List ℕ)) (store : Store) (old new : Tables) → lent ≡ name → read ≡ row → ((q : List ℕ) → schema_of store q ≡ schema_at old q)
    → ((schema : Schema) → schema_at old lent ≡ Some schema → FormsRow schema read form) → ((schema : Schema) → schema_at old lent ≡ Some schema → HasRoomFor (slots_at new lent) form) → IsReady (put name row) form store new
ready_put name lent row read form store old new same same_row known formed room =
    subst (λ (n : List ℕ). IsReady (put n row) form store new) same (subst (λ (r : List ℕ). IsReady (put lent r) form store new) same_row (ready_at lent read form store old new known formed room))

pub sound_of : (d : Change) → is_change d ≡ true → is_sound d ≡ true
sound_of (create name schema) h = h
sound_of (put name row) h = refl
sound_of (remove name key) h = refl

-- ---- how many are created

count_step : (b : Bool) (k : List ℕ) (t : Stored) (n : ℕ) (rest : Store) → t.is_created ≡ b → n ≡ length rest → cond t.is_created 1 0 + n ≡ length (with_row k (shown t) rest)
count_step true k t n rest is h =
    let more : 1 + n ≡ suc (length rest) = omega arith in
    ap (λ c. cond c 1 0 + n) is ∙ more ∙ sym (ap (λ c. length (with_row k (cond c (Some (table_in t)) None) rest)) is)
count_step false k t n rest is h =
    let same : 0 + n ≡ length rest = omega arith in
    ap (λ c. cond c 1 0 + n) is ∙ same ∙ sym (ap (λ c. length (with_row k (cond c (Some (table_in t)) None) rest)) is)

pub count_created : (es : List Entry) → count_by (λ (t : Stored). t.is_created) (values_of es) ≡ length (store_of (tables_in es))
count_created [] = refl
count_created (e ∷ es) =
    sum_by-cons (λ (t : Stored). cond t.is_created 1 0) e.1 (values_of es)
    ∙ count_step e.1.is_created e.0.items e.1 (count_by (λ (t : Stored). t.is_created) (values_of es)) (store_of (tables_in es)) refl (count_created es)
