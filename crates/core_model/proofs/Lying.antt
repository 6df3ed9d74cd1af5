-- Each change of a unit lies in a write claim of the unit.
use Rattle.std.proofs.Common.{◌≡◌, ◌⊎◌, inl, inr, ⊎_elim, ℕ, Bool, true, List, [], ◌∷◌, ◌++◌, Option, Some, None, refl, sym, ◌∙◌, ap, subst}
use Rattle.std.specs.Prelude.{if◌then◌else◌, bytes_eq, unwrap_or}
use Rattle.drda_words.proofs.Precedes.{same_bytes}
use Rattle.row_values.specs.Schema.{Schema}
use Rattle.tables.specs.Change.{Change, create, put, remove}
use Rattle.tables.specs.Laws as tables
use Rattle.tables.specs.Tables.{Store, apply, schema_of}
use Rattle.tables.specs.View.{is_store}
use Rattle.unit_locks.specs.Claim.{Claim}
use Rattle.unit_locks.specs.Claims as locks
use Rattle.unit_locks.specs.Claims.{AddsClaims, all_added}
use Rattle.sql_semantics.specs.Meaning.{Answer as Meant}
use Rattle.sql_semantics.specs.Frame as frame
use Rattle.sql_semantics.specs.Frame.{CoveredIsEnough, HasKey, In, InWrite, Within, changes_of, covered_answer}
use Rattle.core_model.specs.Units.{Held, Owner, Work, apply_all, left_of, others, same_owner, unit_of, view, without}
use Rattle.core_model.specs.Asked.{Done, Question, answer_to, changes_by, claims_of, describing, kept, querying, running, unfit}
use Rattle.core_model.specs.Events.{Ask, Base, Commit, Leave, bare, happens_asked}
use Rattle.core_model.specs.Step.{owner_of}
use Rattle.core_model.specs.Laws.{AllLie, ChangesLie, LiesIn}
use Rattle.core_model.proofs.Owners.{owners_same, unit_of_gone, unit_of_other, unit_of_set, unit_of_without, which}
use Rattle.core_model.proofs.Asking.{through}
use Rattle.core_model.proofs.Keeping.{step_keeps}

-- ---- lists of claims, as both crates below have them

to_locks : (c : Claim) (cs : List Claim) → In c cs → locks.In c cs
to_locks c [] i = absurd i
to_locks c (d ∷ cs) (inl e) = inl e
to_locks c (d ∷ cs) (inr i) = inr (to_locks c cs i)

from_locks : (c : Claim) (cs : List Claim) → locks.In c cs → In c cs
from_locks c [] i = absurd i
from_locks c (d ∷ cs) (inl e) = inl e
from_locks c (d ∷ cs) (inr i) = inr (from_locks c cs i)

abbrev Fewer : List Claim → List Claim → Type 0
Fewer cs ds = (c : Claim) → In c cs → In c ds

within_more : (s : Store) (x : Change) (cs ds : List Claim) → Fewer cs ds → Within s x cs → Within s x ds
within_more s (create table schema) cs ds more w = (more _ w.0, more _ w.1, w.2)
within_more s (put table row) cs ds more (inl i) = inl (more _ i)
within_more s (put table row) cs ds more (inr w) = inr (w.0, w.1, more _ w.2)
within_more s (remove table key) cs ds more (inl i) = inl (more _ i)
within_more s (remove table key) cs ds more (inr i) = inr (more _ i)

in_either : (x : Change) (xs ys : List Change) → In x (xs ++ ys) → In x xs ⊎ In x ys
in_either x [] ys i = inr i
in_either x (z ∷ xs) ys (inl e) = inl (inl e)
in_either x (z ∷ xs) ys (inr i) = ⊎_elim (λ h. inl (inr h)) (λ h. inr h) (in_either x xs ys i)

-- ---- schemas stay

abbrev Grows : Store → Store → Type 0
Grows s t = (q : List ℕ) (schema : Schema) → schema_of s q ≡ Some schema → schema_of t q ≡ Some schema

has_grows : (s t : Store) (table row key : List ℕ) (o : Option Schema) → schema_of s table ≡ o → Grows s t → HasKey o row key → HasKey (schema_of t table) row key
has_grows s t table row key None is g h = absurd h
has_grows s t table row key (Some schema) is g h = subst (λ (q : Option Schema). HasKey q row key) (sym (g table schema is)) h

within_grows : (s t : Store) (x : Change) (cs : List Claim) → Grows s t → Within s x cs → Within t x cs
within_grows s t (create table schema) cs g w = w
within_grows s t (put table row) cs g (inl i) = inl i
within_grows s t (put table row) cs g (inr w) = inr (w.0, has_grows s t table row w.0 (schema_of s table) refl g w.1, w.2)
within_grows s t (remove table key) cs g w = w

module _ (created : tables.Created) (puts : tables.Put) (removed : tables.Removed) where
  grows_one : (x : Change) (s : Store) → Grows s (apply x s)
  grows_one (create name new) s q schema is =
      let P : Bool → Option Schema = λ b. if b then Some (unwrap_or (schema_of s name) new) else schema_of s q in
      let e : schema_of (apply (create name new) s) q ≡ P (bytes_eq q name) = (created name new s).schemas q in
      ⊎_elim
      (λ so.
      let there : schema_of s name ≡ Some schema = subst (λ (y : List ℕ). schema_of s y ≡ Some schema) (same_bytes q name so) is in
      e ∙ ap P so ∙ ap (λ (o : Option Schema). let r : Option Schema = Some (unwrap_or o new) in r) there)
      (λ n. e ∙ ap P n ∙ is)
      (which (bytes_eq q name))
  grows_one (put name row) s q schema is = (puts name row s).schemas q ∙ is
  grows_one (remove name key) s q schema is = (removed name key s).schemas q ∙ is

  grows_all : (xs : List Change) (s : Store) → Grows s (apply_all xs s)
  grows_all [] s q schema is = is
  grows_all (x ∷ xs) s q schema is = grows_all xs (apply x s) q schema (grows_one x s q schema is)

  -- a schema that is there behind a change was there before, or all of its table is claimed
  from_one : (x : Change) (s : Store) (cs : List Claim) (q : List ℕ) (schema : Schema) → Within s x cs → schema_of (apply x s) q ≡ Some schema → (schema_of s q ≡ Some schema) ⊎ InWrite q None cs
  from_one (create name new) s cs q schema w is =
      let P : Bool → Option Schema = λ b. if b then Some (unwrap_or (schema_of s name) new) else schema_of s q in
      let e : schema_of (apply (create name new) s) q ≡ P (bytes_eq q name) = (created name new s).schemas q in
      ⊎_elim
      (λ so. inr (subst (λ (y : List ℕ). InWrite y None cs) (sym (same_bytes q name so)) w.0))
      (λ n. inl (sym (ap P n) ∙ sym e ∙ is))
      (which (bytes_eq q name))
  from_one (put name row) s cs q schema w is = inl (sym ((puts name row s).schemas q) ∙ is)
  from_one (remove name key) s cs q schema w is = inl (sym ((removed name key s).schemas q) ∙ is)

  schema_from : (xs : List Change) (s : Store) (cs : List Claim) (q : List ℕ) (schema : Schema) → ((x : Change) → In x xs → Within s x cs) → schema_of (apply_all xs s) q ≡ Some schema → (schema_of s q ≡ Some schema) ⊎ InWrite q None cs
  schema_from [] s cs q schema lies is = inl is
  schema_from (x ∷ xs) s cs q schema lies is =
      ⊎_elim
      (λ e. from_one x s cs q schema (lies x (inl refl)) e)
      (λ w. inr w)
      (schema_from xs (apply x s) cs q schema (λ y i. within_grows s (apply x s) y cs (grows_one x s) (lies y (inr i))) is)

  module _ (adds : AddsClaims) where
    new_in : (cs ds : List Claim) → Fewer ds (all_added cs ds)
    new_in cs ds c i = from_locks c (all_added cs ds) (adds.new c cs ds (to_locks c ds i))

    old_in : (cs ds : List Claim) → Fewer cs (all_added cs ds)
    old_in cs ds c i = from_locks c (all_added cs ds) (adds.old c cs ds (to_locks c cs i))

    put_view : (s : Store) (u : Work) (ds : List Claim) (table row key : List ℕ) (o : Option Schema) → LiesIn s u → schema_of (view s u) table ≡ o → HasKey o row key → InWrite table (Some key) ds → Within s (put table row) (all_added u.claims ds)
    put_view s u ds table row key None lies is has i = absurd has
    put_view s u ds table row key (Some schema) lies is has i =
        ⊎_elim
        (λ e. inr (key, subst (λ (q : Option Schema). HasKey q row key) (sym e) has, new_in u.claims ds _ i))
        (λ w. inl (old_in u.claims ds _ w))
        (schema_from u.changes s u.claims table schema lies is)

    -- what lies in claims over the unit's view lies over the committed store in all that the unit claims
    within_view : (s : Store) (u : Work) (x : Change) (ds : List Claim) → LiesIn s u → Within (view s u) x ds → Within s x (all_added u.claims ds)
    within_view s u (create table schema) ds lies w = (new_in u.claims ds _ w.0, new_in u.claims ds _ w.1, w.2)
    within_view s u (put table row) ds lies (inl i) = inl (new_in u.claims ds _ i)
    within_view s u (put table row) ds lies (inr w) = put_view s u ds table row w.0 (schema_of (view s u) table) lies refl w.1 w.2
    within_view s u (remove table key) ds lies (inl i) = inl (new_in u.claims ds _ i)
    within_view s u (remove table key) ds lies (inr i) = inr (new_in u.claims ds _ i)

    module _ (enough : CoveredIsEnough) (lying : frame.Lies) where
      made_lie : (q : Question) (left : ℕ) (v : Store) (x : Change) → is_store v ≡ true → In x (changes_by q left v) → Within v x (claims_of q v)
      made_lie (running st params) left v x good i = lying params left st.command v x good (subst (λ (m : Meant). In x (changes_of m)) (sym (enough params left st.command v good)) i)
      made_lie (querying st params) left v x good i = lying params left st.command v x good (subst (λ (m : Meant). In x (changes_of m)) (sym (enough params left st.command v good)) i)
      made_lie (describing st d) left v x good i = absurd i

      kept_lies : (s : Store) (u : Work) (q : Question) → is_store (view s u) ≡ true → LiesIn s u → LiesIn s (kept u (claims_of q (view s u)) (changes_by q (left_of u) (view s u)))
      kept_lies s u q good lies x i =
          let v = view s u in let cs = claims_of q v in let xs = changes_by q (left_of u) v in
          ⊎_elim
          (λ old. within_more s x u.claims (all_added u.claims cs) (old_in u.claims cs) (lies x old))
          (λ new. within_view s u x cs lies (made_lie q (left_of u) v x good new))
          (in_either x u.changes xs i)

      set_lie : (b : Base) (o : Owner) (w : Work) (a : _) → LiesIn b.store w → AllLie b → AllLie (happens_asked b o (Done a w))
      set_lie b o w a lies all p =
          ⊎_elim
          (λ so. subst (λ (n : Owner). LiesIn b.store (unit_of n (happens_asked b o (Done a w)).units)) (sym (owners_same p o so)) (subst (LiesIn b.store) (sym (unit_of_set o w b.units)) lies))
          (λ n. subst (LiesIn b.store) (sym (unit_of_other p o w b.units n)) (all p))
          (which (same_owner p o))

      ask_lies : (b : Base) (o : Owner) (q : Question) → is_store (view b.store (unit_of o b.units)) ≡ true → AllLie b → AllLie (bare b (Ask o q))
      ask_lies b o q good all =
          let u = unit_of o b.units in let v = view b.store u in
          through (others o b.units) u (claims_of q v) (answer_to q (left_of u) v) (changes_by q (left_of u) v) AllLie b o (unfit q) all
          (λ n m. set_lie b o (kept u (claims_of q v) (changes_by q (left_of u) v)) (answer_to q (left_of u) v) (kept_lies b.store u q good (all o)) all)

      gone_lies : (s t : Store) (o : Owner) (hs : List Held) → Grows s t → ((p : Owner) → LiesIn s (unit_of p hs)) → (p : Owner) → LiesIn t (unit_of p (without o hs))
      gone_lies s t o hs g all p =
          ⊎_elim
          (λ so. subst (λ (n : Owner). LiesIn t (unit_of n (without o hs))) (sym (owners_same p o so)) (subst (LiesIn t) (sym (unit_of_gone o hs)) (λ x i. absurd i)))
          (λ n. subst (LiesIn t) (sym (unit_of_without p o hs n)) (λ x i. within_grows s t x (unit_of p hs).claims g (all p x i)))
          (which (same_owner p o))

      commit_lies : (b : Base) (o : Owner) → AllLie b → AllLie (bare b (Commit o))
      commit_lies b o all = gone_lies b.store (view b.store (unit_of o b.units)) o b.units (grows_all (unit_of o b.units).changes b.store) all

      leave_lies : (b : Base) (o : Owner) → AllLie b → AllLie (bare b (Leave o))
      leave_lies b o all = gone_lies b.store b.store o b.units (λ q schema is. is) all

      pub changes_lie : ChangesLie
      changes_lie s c k good all = step_keeps AllLie commit_lies leave_lies s c k (λ q. ask_lies s.base (owner_of s.branches c) q good all) all
