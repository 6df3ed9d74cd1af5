-- Branches in doubt that are restored from the last one on.
use Rattle.std.proofs.Common.{◌≡◌, ◌⊎◌, inl, inr, ℕ, ◌<◌, ◌≤◌, Bool, true, false, cond, List, [], ◌∷◌, ◌++◌, length, Option, Some, None, IsSome, refl, sym, ◌∙◌, ap, subst, arith, length-append}
use Rattle.std.specs.List.{list_all}
use Rattle.std.specs.Map.{keys_of}
use Rattle.std.specs.Ordering.{is_lt, nat_cmp}
use Rattle.std.specs.Cmp.Lexicographic.{slice_cmp}
use Rattle.std.proofs.lemmas.List.{length-map, append-nil}
use Rattle.std.proofs.lemmas.Bool.{true≢false}
use Rattle.drda_words.specs.Order.{precedes, rises}
use Rattle.drda_words.proofs.Precedes.{precedes_another, precedes_other}
use Rattle.row_values.proofs.ValueLaws.{first_true, second_true}
use Rattle.tables.specs.Tables.{Store}
use Rattle.xa_manager.specs.declared.branch.Branch.{Branch}
use Rattle.xa_manager.specs.declared.branch.BranchState.{BranchState}
use Rattle.xa_manager.specs.declared.due.Decision.{Decision}
use Rattle.xa_manager.specs.Branch.{found_state, in_doubt_count, state_of, with_branch}
use Rattle.core_model.specs.Units.{Work, global, has_work, idle, unit_of}
use Rattle.core_model.specs.Step.{CoreState}
use Rattle.core_model.proofs.Owners.{unit_of_other}
use Rattle.recovery.specs.Durable.{Doubt, Doubts}
use Rattle.recovery.specs.Replay.{doubt_in, doubts_in}
use Rattle.recovery.specs.Sound.{IsSound}
use Rattle.recovery.specs.declared.prepared.PreparedUnit.{PreparedUnit}
use Rattle.recovery.specs.Part.{doubt_branches, doubt_units, opened}
use Rattle.recovery.proofs.Doubts.{xids_count}
use Rattle.recovery.proofs.Opening.{xids_of}
use Rattle.rdb_core.specs.Restored.{RestoresUnit, with_in_doubt}
use Rattle.xa_manager.specs.declared.table.RestoreError.{RestoreError}
use Rattle.xa_manager.specs.declared.table.RestoreError.TheVariants as error
use Rattle.std.specs.Prelude.{Result, Err}

abbrev branch_of : List ℕ → Option Decision → Branch
branch_of x o = record { xid = x; state = found_state o }

abbrev comes_first : List ℕ → List ℕ → Bool
comes_first x later = is_lt (slice_cmp nat_cmp x later)

-- an XID that comes before all of these
abbrev IsFirst : List ℕ → Doubts → Type 0
IsFirst x es = list_all (comes_first x) (keys_of es) ≡ true

here : (x : List ℕ) (e : List ℕ × Doubt) (es : Doubts) → IsFirst x (e ∷ es) → precedes x e.0 ≡ true
here x e es first = first_true (comes_first x e.0) (list_all (comes_first x) (keys_of es)) first

later : (x : List ℕ) (e : List ℕ × Doubt) (es : Doubts) → IsFirst x (e ∷ es) → IsFirst x es
later x e es first = second_true (comes_first x e.0) (list_all (comes_first x) (keys_of es)) first

idle_first : (x : List ℕ) (es : Doubts) → IsFirst x es → unit_of (global x) (doubt_units es) ≡ idle
idle_first x [] first = refl
idle_first x (e ∷ es) first = unit_of_other (global x) (global e.0) e.1.work (doubt_units es) (precedes_other x e.0 (here x e es first)) ∙ idle_first x es (later x e es first)

unknown_first : (x : List ℕ) (es : Doubts) → IsFirst x es → state_of (doubt_branches es) x ≡ None
unknown_first x [] first = refl
unknown_first x (e ∷ es) first = ap (λ (b : Bool). cond b (Some (found_state e.1.outcome)) (state_of (doubt_branches es) x)) (precedes_another x e.0 (here x e es first)) ∙ unknown_first x es (later x e es first)

branch_first : (x : List ℕ) (o : Option Decision) (es : Doubts) → IsFirst x es → with_branch (doubt_branches es) (branch_of x o) ≡ branch_of x o ∷ doubt_branches es
branch_first x o [] first = refl
branch_first x o (e ∷ es) first =
    ap (λ (b : Bool). cond b (branch_of x o ∷ branch_of e.0 e.1.outcome ∷ doubt_branches es) (branch_of e.0 e.1.outcome ∷ with_branch (doubt_branches es) (branch_of x o))) (here x e es first)

count_is : (es : Doubts) → in_doubt_count (doubt_branches es) ≡ length es
count_is es = sym (xids_count (doubt_branches es)) ∙ ap (λ (l : List (List ℕ)). length l) (xids_of es) ∙ length-map es (λ (e : List ℕ × Doubt). e.0)

known_is : (es : Doubts) → length (doubt_branches es) ≡ length es
known_is es = length-map es (λ (e : List ℕ × Doubt). branch_of e.0 e.1.outcome)

rises_back : (front back : Doubts) → rises (slice_cmp nat_cmp) (keys_of (front ++ back)) ≡ true → rises (slice_cmp nat_cmp) (keys_of back) ≡ true
rises_back [] back rise = rise
rises_back (e ∷ front) back rise = rises_back front back (second_true (list_all (comes_first e.0) (keys_of (front ++ back))) (rises (slice_cmp nat_cmp) (keys_of (front ++ back))) rise)

-- the last unit that is left becomes the first that is done
moved : (left : List PreparedUnit) (u : PreparedUnit) (done : Doubts) → doubts_in (left ++ u ∷ []) ++ done ≡ doubts_in left ++ doubt_in u ∷ done
moved [] u done = refl
moved (v ∷ left) u done = ap (λ (es : Doubts). doubt_in v ∷ es) (moved left u done)

module _ (store : Store) (all : Doubts) where
  -- these units are left, and the others are there again
  pub record IsUnderWay (left : List PreparedUnit) (now : CoreState) : Type 0 where
    pub done : Doubts
    pub whole : doubts_in left ++ done ≡ all
    pub state : now ≡ opened (record { store = store; doubts = done })

  pub begins : (left : List PreparedUnit) (now : CoreState) → doubts_in left ≡ all → now ≡ opened (record { store = store; doubts = [] }) → IsUnderWay left now
  begins left now whole state = record { done = []; whole = append-nil (doubts_in left) ∙ whole; state = state }

  pub ends : (now : CoreState) → IsUnderWay [] now → now ≡ opened (record { store = store; doubts = all })
  ends now way = way.state ∙ ap (λ (es : Doubts). opened (record { store = store; doubts = es })) way.whole

  module _ (sound : IsSound (record { store = store; doubts = all })) (old left : List PreparedUnit) (now : CoreState) (u : PreparedUnit) (way : IsUnderWay old now) (last : old ≡ left ++ u ∷ []) where
    all_is : doubts_in left ++ doubt_in u ∷ way.done ≡ all
    all_is = sym (moved left u way.done) ∙ ap (λ (l : List PreparedUnit). doubts_in l ++ way.done) (sym last) ∙ way.whole

    is_first : IsFirst u.xid way.done
    is_first = first_true (list_all (comes_first u.xid) (keys_of way.done)) (rises (slice_cmp nat_cmp) (keys_of way.done))
        (rises_back (doubts_in left) (doubt_in u ∷ way.done) (subst (λ (es : Doubts). rises (slice_cmp nat_cmp) (keys_of es) ≡ true) (sym all_is) sound.rising))

    few : length way.done < 256
    few = omega (arith, sound.few, ap (λ (es : Doubts). length es) all_is, length-append (doubts_in left) (doubt_in u ∷ way.done))

    pub is_idle : has_work (unit_of (global u.xid) now.base.units) ≡ false
    is_idle = ap (λ (s : CoreState). has_work (unit_of (global u.xid) s.base.units)) way.state ∙ ap (λ (w : Work). has_work w) (idle_first u.xid way.done is_first)

    unknown : state_of now.branches u.xid ≡ None
    unknown = ap (λ (s : CoreState). state_of s.branches u.xid) way.state ∙ unknown_first u.xid way.done is_first

    pub not_known : IsSome (state_of now.branches u.xid) → ⊥
    not_known known = absurd (true≢false (sym (subst (λ (o : Option BranchState). IsSome o) unknown known)))

    pub not_full : (1024 ≤ length now.branches) ⊎ (256 ≤ in_doubt_count now.branches) → ⊥
    not_full (inl many) = omega (arith, many, few, known_is way.done, ap (λ (s : CoreState). length s.branches) way.state)
    not_full (inr many) = omega (arith, many, few, count_is way.done, ap (λ (s : CoreState). in_doubt_count s.branches) way.state)

    pub goes_on : (next : CoreState) → next ≡ with_in_doubt now u.xid u.outcome u.changes u.claims.items → IsUnderWay left next
    goes_on next is = record {
      done = doubt_in u ∷ way.done;
      whole = all_is;
      state = is ∙ ap (λ (s : CoreState). with_in_doubt s u.xid u.outcome u.changes u.claims.items) way.state
          ∙ ap (λ (bs : List Branch). record { base = record { store = store; units = doubt_units (doubt_in u ∷ way.done) }; branches = bs }) (branch_first u.xid u.outcome way.done is_first);
    }

-- ---- what is told

pub told_known : {T : Type 0} (r : Result T RestoreError) (e : RestoreError) (bs : List Branch) (x : List ℕ) → r ≡ Err e → e ≡ error.Known → RestoresUnit r bs x → IsSome (state_of bs x)
told_known {T} r e bs x is told exact = subst (λ (y : Result T RestoreError). RestoresUnit y bs x) (is ∙ ap (λ (f : RestoreError). Err f) told) exact
