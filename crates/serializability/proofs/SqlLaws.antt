-- Statements meet what serial order asks for.
use Rattle.std.proofs.Common.{◌≡◌, inl, inr, ⊎_elim, ℕ, List, [], ◌∷◌, true, if◌then◌else◌, refl, sym, ap, subst, ◌∙◌, Option, Some, None, option_map}
use Rattle.std.specs.Prelude.{bytes_eq, unwrap_or}
use Rattle.sql_text.specs.declared.tree.Command.{Command}
use Rattle.sql_text.specs.declared.tree.Command.TheVariants as command
use Rattle.row_values.specs.Value.{Value}
use Rattle.row_values.specs.Schema.{Schema}
use Rattle.tables.specs.Change.{Change, create, put, remove}
use Rattle.tables.specs.Tables.{Store, Table, apply, schema_of}
use Rattle.tables.specs.View.{is_sound, is_store}
use Rattle.tables.specs.Laws.{Created, NamesChange, Put, Removed, StoresAreKept, TableCreated, TablePut, TableRemoved}
use Rattle.unit_locks.specs.Claim.{Claim}
use Rattle.unit_locks.specs.Clash.{IsSymmetric, clash}
use Rattle.unit_locks.specs.Claims.{AddsClaims, In as InClaims, all_added}
use Rattle.sql_semantics.specs.Scope.{claims, scope, table_name}
use Rattle.sql_semantics.specs.Meaning.{meaning}
use Rattle.sql_semantics.specs.Frame.{Agree, FrameLaw, HasKey, InWrite, Lies, Same, Within as LiesIn, changes_of, claims_in}
use Rattle.serializability.specs.Words.{AllWithin, Fewer, In, Laws, apply_all}
use Rattle.serializability.specs.SqlWords.{Call, Describe, Run, Seen, Told, Unfit, Within, bytes_left, call_answer, call_changes, call_claims, described_claims, sql_words}
use Rattle.serializability.proofs.Steady.{Grows, Shows, foreign_change, grows_apply, of_frame, own_change, same_bytes, to_frame, which}
use Rattle.serializability.proofs.Sound.{meaning_sound}

pub to_claims : (c : Claim) (cs : List Claim) → In c cs → InClaims c cs
to_claims c [] i = i
to_claims c (d ∷ ds) (inl same) = inl same
to_claims c (d ∷ ds) (inr i) = inr (to_claims c ds i)

pub of_claims : (c : Claim) (cs : List Claim) → InClaims c cs → In c cs
of_claims c [] i = i
of_claims c (d ∷ ds) (inl same) = inl same
of_claims c (d ∷ ds) (inr i) = inr (of_claims c ds i)

-- ---- where changes lie

has_key_by : (o p : Option Schema) (row key : List ℕ) → ((schema : Schema) → o ≡ Some schema → p ≡ Some schema) → HasKey o row key → HasKey p row key
has_key_by None p row key g h = absurd h
has_key_by (Some schema) p row key g h = subst (λ (q : Option Schema). HasKey q row key) (sym (g schema refl)) h

lies_grow : (x : Change) (cs : List Claim) (s t : Store) → Grows s t → LiesIn s x cs → LiesIn t x cs
lies_grow (create n schema) cs s t g w = w
lies_grow (put n row) cs s t g w =
    ⊎_elim (λ a. inl a) (λ (b : (key : List ℕ) × HasKey (schema_of s n) row key × InWrite n (Some key) cs). inr (b.0, has_key_by (schema_of s n) (schema_of t n) row b.0 (g n) b.1, b.2)) w
lies_grow (remove n key) cs s t g w = w

lies_more : (s : Store) (x : Change) (cs ds : List Claim) → Fewer cs ds → LiesIn s x cs → LiesIn s x ds
lies_more s x cs ds fewer = by x
  where
    more : (n : List ℕ) (key : Option (List ℕ)) → InWrite n key cs → InWrite n key ds
    more n key i = to_frame _ ds (fewer _ (of_frame _ cs i))

    by : (y : Change) → LiesIn s y cs → LiesIn s y ds
    by (create n schema) w = (more n None w.0, more _ None w.1, w.2)
    by (put n row) w = ⊎_elim (λ a. inl (more n None a)) (λ (b : (key : List ℕ) × HasKey (schema_of s n) row key × InWrite n (Some key) cs). inr (b.0, b.1, more n (Some b.0) b.2)) w
    by (remove n key) w = ⊎_elim (λ a. inl (more n None a)) (λ b. inr (more n (Some key) b)) w

-- a table that changes brought was created by one of them
abbrev MadeIn : Change → List Claim → Type 0
MadeIn (create n schema) cs = InWrite n None cs
MadeIn (put n row) cs = Unit {0}
MadeIn (remove n key) cs = Unit {0}

made_in : (s : Store) (x : Change) (cs : List Claim) → LiesIn s x cs → MadeIn x cs
made_in s (create n schema) cs w = w.0
made_in s (put n row) cs w = tt
made_in s (remove n key) cs w = tt

no_some : {A : Type 0} (x : A) → None ≡ Some x → ⊥
no_some x h = absurd cc

some_inside : {A : Type 0} (x y : A) → Some x ≡ Some y → x ≡ y
some_inside x y h = cc

module _ (made : Created) (put_is : Put) (removed : Removed) (n : List ℕ) (sh : Schema) (cs : List Claim) where
  brought_by : (x : Change) (xs : List Change) (t : Store) → schema_of t n ≡ None → MadeIn x cs → (schema_of (apply x t) n ≡ None → InWrite n None cs) → InWrite n None cs
  brought_by (create m schema) xs t none this more =
      ⊎_elim
      (λ so. subst (λ (l : List ℕ). InWrite l None cs) (sym (same_bytes n m so)) this)
      (λ ne. more ((made m schema t).schemas n ∙ ap (λ b. if b then Some (unwrap_or (schema_of t m) schema) else schema_of t n) ne ∙ none))
      (which (bytes_eq n m))
  brought_by (put m row) xs t none this more = more ((put_is m row t).schemas n ∙ none)
  brought_by (remove m key) xs t none this more = more ((removed m key t).schemas n ∙ none)

  brought : (xs : List Change) (t : Store) → schema_of t n ≡ None → schema_of (apply_all sql_words xs t) n ≡ Some sh → ((y : Change) → In y xs → MadeIn y cs) → InWrite n None cs
  brought [] t none some all = absurd (no_some sh (sym none ∙ some))
  brought (x ∷ xs) t none some all = brought_by x xs t none (all x (inl refl)) (λ none'. brought xs (apply x t) none' some (λ y i. all y (inr i)))

-- ---- what agrees

same_refl : (o : Option (List ℕ)) (q : List ℕ) (s : Store) → Same o q s s
same_refl None q s = refl
same_refl (Some k) q s = (refl, refl)

same_trans : (o : Option (List ℕ)) (q : List ℕ) (s t u : Store) → Same o q s t → Same o q t u → Same o q s u
same_trans None q s t u a b = a ∙ b
same_trans (Some k) q s t u a b = (a.0 ∙ b.0, a.1 ∙ b.1)

shown : (n : List ℕ) (s t : Store) → Same None n s t → schema_of s n ≡ schema_of t n
shown n s t same = ap (option_map (λ (u : Table). u.schema)) same

-- stores that agree on a statement's claims agree on its schema
schema_by : (params : List Value) (c : Command) (s t : Store) (o : Option Schema) → schema_of s (table_name c) ≡ o → Shows (claims params c o) s t → o ≡ schema_of t (table_name c)
unfolding claims scope
schema_by params c s t (Some schema) is h = sym (h.grows (table_name c) schema is)
schema_by params (command.Create n ds key) s t None is h = sym is ∙ shown _ s t (h.covered _ (inl refl)).rows
schema_by params (command.Insert n ds key) s t None is h = sym is ∙ shown _ s t (h.covered _ (inl refl)).rows
schema_by params (command.Update n ds key) s t None is h = sym is ∙ shown _ s t (h.covered _ (inl refl)).rows
schema_by params (command.Delete n f) s t None is h = sym is ∙ shown _ s t (h.covered _ (inl refl)).rows
schema_by params (command.Select ns n f) s t None is h = sym is ∙ shown _ s t (h.covered _ (inl refl)).rows

agreed : (params : List Value) (c : Command) (s t : Store) → Shows (claims_in params c s) s t → Agree (table_name c) (claims_in params c s) s t
agreed params c s t h = record { schema = schema_by params c s t (schema_of s (table_name c)) refl h; covered = λ d i. h.covered d (of_frame d (claims_in params c s) i) }

described_by : (n : List ℕ) (s t : Store) (o : Option Schema) → schema_of s n ≡ o → Shows (described_claims n o) s t → o ≡ schema_of t n
described_by n s t (Some schema) is h = sym (h.grows n schema is)
described_by n s t None is h = sym is ∙ shown _ s t (h.covered _ (inl refl)).rows

described : (c : Command) (s t : Store) → Shows (call_claims (Describe c) s) s t → schema_of s (table_name c) ≡ schema_of t (table_name c)
described c s t h = described_by (table_name c) s t (schema_of s (table_name c)) refl h

-- ---- all of them

module _ (made : Created) (put_is : Put) (removed : Removed) (kept : StoresAreKept) (table_made : TableCreated) (table_put : TablePut) (table_removed : TableRemoved) (names : NamesChange)
    (symmetric : IsSymmetric clash) (adds : AddsClaims) (framed : FrameLaw) (lies : Lies) where
  added_old : (cs ds : List Claim) → Fewer cs (all_added cs ds)
  added_old cs ds c i = of_claims c (all_added cs ds) (adds.old c cs ds (to_claims c cs i))

  added_new : (cs ds : List Claim) → Fewer ds (all_added cs ds)
  added_new cs ds c i = of_claims c (all_added cs ds) (adds.new c cs ds (to_claims c ds i))

  grows : (x : Change) (s : Store) → Grows s (apply x s)
  grows = grows_apply made put_is removed table_made table_put table_removed names

  grows_all : (xs : List Change) (s : Store) → Grows s (apply_all sql_words xs s)
  grows_all [] s q sh is = is
  grows_all (x ∷ xs) s q sh is = grows_all xs (apply x s) q sh (grows x s q sh is)

  store_all : (xs : List Change) (s : Store) → is_store s ≡ true → ((y : Change) → In y xs → is_sound y ≡ true) → is_store (apply_all sql_words xs s) ≡ true
  store_all [] s good sound = good
  store_all (x ∷ xs) s good sound = store_all xs (apply x s) (kept x s (sound x (inl refl)) good) (λ y i. sound y (inr i))

  -- what lies in a statement's claims over what its unit sees lies in the unit's claims over the store
  -- below: the statement's key is that of the row, or the unit created the table and claims all of it
  below : (xs : List Change) (cs ds : List Claim) (s : Store) (x : Change) → AllWithin sql_words s xs cs → LiesIn (apply_all sql_words xs s) x ds → LiesIn s x (all_added cs ds)
  below xs cs ds s x own = by x
    where
      new : (n : List ℕ) (key : Option (List ℕ)) → InWrite n key ds → InWrite n key (all_added cs ds)
      new n key i = to_frame _ (all_added cs ds) (added_new cs ds _ (of_frame _ ds i))

      at_key : (n row key : List ℕ) (o p : Option Schema) → schema_of s n ≡ o → schema_of (apply_all sql_words xs s) n ≡ p → HasKey p row key → InWrite n (Some key) ds → LiesIn s (put n row) (all_added cs ds)
      at_key n row key o None is is_v h w = absurd h
      at_key n row key None (Some sh) is is_v h w =
          inl (to_frame _ (all_added cs ds) (added_old cs ds _ (of_frame _ cs (brought made put_is removed n sh cs xs s is is_v (λ y j. made_in s y cs (own y j).lies)))))
      at_key n row key (Some sh) (Some sv) is is_v h w =
          let alike : sh ≡ sv = some_inside sh sv (sym (grows_all xs s n sh is) ∙ is_v) in
          inr (key, subst (λ (q : Option Schema). HasKey q row key) (sym (is ∙ ap Some alike)) h, new n (Some key) w)

      by : (y : Change) → LiesIn (apply_all sql_words xs s) y ds → LiesIn s y (all_added cs ds)
      by (create n schema) w = (new n None w.0, new _ None w.1, w.2)
      by (put n row) w =
          ⊎_elim (λ a. inl (new n None a))
          (λ (b : (key : List ℕ) × HasKey (schema_of (apply_all sql_words xs s) n) row key × InWrite n (Some key) ds). at_key n row b.0 (schema_of s n) (schema_of (apply_all sql_words xs s) n) refl refl b.1 b.2) w
      by (remove n key) w = ⊎_elim (λ a. inl (new n None a)) (λ b. inr (new n (Some key) b)) w

  all_lie : (call : Call) (xs : List Change) (cs : List Claim) (s : Store) (x : Change) → is_store s ≡ true → AllWithin sql_words s xs cs
      → (let v = apply_all sql_words xs s in In x (call_changes call (bytes_left xs) v) → Within s x (all_added cs (call_claims call v)))
  all_lie (Run params c) xs cs s x good own i =
      let v = apply_all sql_words xs s in
      let left = bytes_left xs in
      let good_v : is_store v ≡ true = store_all xs s good (λ y j. (own y j).sound) in
      let j = to_frame x (changes_of (meaning params left c v)) i in record {
        lies = below xs cs (claims_in params c v) s x own (lies params left c v x good_v j);
        sound = meaning_sound params left c v x j;
      }
  all_lie (Describe c) xs cs s x good own i = absurd i
  all_lie (Unfit f) xs cs s x good own i = absurd i

  same_claims : (call : Call) (s t : Store) → is_store s ≡ true → is_store t ≡ true → Shows (call_claims call s) s t → call_claims call s ≡ call_claims call t
  same_claims (Run params c) s t good_s good_t h = (framed params 0 c s t good_s good_t (agreed params c s t h)).0
  same_claims (Describe c) s t good_s good_t h = ap (described_claims (table_name c)) (described c s t h)
  same_claims (Unfit f) s t good_s good_t h = refl

  same_answer : (call : Call) (left : ℕ) (s t : Store) → is_store s ≡ true → is_store t ≡ true → Shows (call_claims call s) s t → call_answer call left s ≡ call_answer call left t
  same_answer (Run params c) left s t good_s good_t h = ap Told (framed params left c s t good_s good_t (agreed params c s t h)).1
  same_answer (Describe c) left s t good_s good_t h = ap Seen (described c s t h)
  same_answer (Unfit f) left s t good_s good_t h = refl

  same_changes : (call : Call) (left : ℕ) (s t : Store) → is_store s ≡ true → is_store t ≡ true → Shows (call_claims call s) s t → call_changes call left s ≡ call_changes call left t
  same_changes (Run params c) left s t good_s good_t h = ap changes_of (framed params left c s t good_s good_t (agreed params c s t h)).1
  same_changes (Describe c) left s t good_s good_t h = refl
  same_changes (Unfit f) left s t good_s good_t h = refl

  pub sql_laws : Laws sql_words
  sql_laws = record {
    Agree = Shows;
    agree_refl = λ cs s. record { grows = λ q sh is. is; covered = λ c i. record { rows = same_refl c.key c.table s; names = λ z. refl } };
    agree_trans = λ cs s t u a b. record {
      grows = λ q sh is. b.grows q sh (a.grows q sh is);
      covered = λ c i. record { rows = same_trans c.key c.table s t u ((a.covered c i).rows) ((b.covered c i).rows); names = λ z. (a.covered c i).names z ∙ (b.covered c i).names z };
    };
    agree_fewer = λ cs ds s t fewer a. record { grows = a.grows; covered = λ c i. a.covered c (fewer c i) };
    clash_sym = λ c d h. symmetric d c ∙ h;
    added_old = added_old;
    added_new = added_new;
    added_only = λ cs ds c i. ⊎_elim (λ a. inl (of_claims c cs a)) (λ b. inr (of_claims c ds b)) (adds.only c cs ds (to_claims c (all_added cs ds) i));
    Grows = Grows;
    grows_refl = λ s q sh is. is;
    grows_trans = λ s t u a b q sh is. b q sh (a q sh is);
    grows_apply = grows;
    sound_apply = λ x cs s good w. kept x s w.sound good;
    within_grows = λ x cs s t g w. record { lies = lies_grow x cs s t g w.lies; sound = w.sound };
    within_more = λ s x cs ds fewer w. record { lies = lies_more s x cs ds fewer w.lies; sound = w.sound };
    foreign = λ x cs ds s w apart. foreign_change made put_is removed table_made table_put table_removed names x cs ds s w.lies apart;
    own = λ x cs s t w shows. own_change made put_is removed table_made table_put table_removed names x cs s t w.lies shows;
    same_claims = same_claims;
    same_answer = λ call xs s t. same_answer call (bytes_left xs) s t;
    same_changes = λ call xs s t. same_changes call (bytes_left xs) s t;
    lies = all_lie;
  }
