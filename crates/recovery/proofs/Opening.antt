-- A core that is opened is kept.
use Rattle.std.proofs.Common.{◌≡◌, ◌≤◌, ⊎_elim, ℕ, Bool, true, false, List, [], ◌∷◌, length, Option, Some, None, refl, sym, ◌∙◌, ap, subst, arith}
use Rattle.std.specs.Prelude.{bytes_eq, if◌then◌else◌}
use Rattle.drda_words.proofs.Precedes.{same_bytes}
use Rattle.std.specs.List.{AllByRecursion, list_all}
use Rattle.std.specs.Map.{keys_of}
use Rattle.std.specs.Ordering.{is_lt, nat_cmp}
use Rattle.std.specs.Cmp.Lexicographic.{slice_cmp}
use Rattle.std.proofs.lemmas.List.{length-map}
use Rattle.drda_words.specs.Order.{rises}
use Rattle.row_values.proofs.ValueLaws.{first_true, second_true}
use Rattle.xa_manager.specs.declared.branch.Branch.{Branch}
use Rattle.xa_manager.specs.declared.branch.BranchState.{BranchState}
use Rattle.xa_manager.specs.declared.branch.BranchState.TheVariants.{Heuristic}
use Rattle.xa_manager.specs.declared.due.Decision.{Decision}
use Rattle.xa_manager.specs.Branch.{IsTable, found_state, in_doubt_xids, is_in_doubt, state_of}
use Rattle.xa_manager.proofs.Rising.{Above, Rises, rising}
use Rattle.core_model.specs.Units.{Owner, Work, global, idle, local, same_owner, unit_of}
use Rattle.core_model.proofs.Owners.{both, owners_same, unit_of_other, unit_of_set, which}
use Rattle.recovery.specs.Durable.{Doubt, Doubts, Durable, creates_none, have_places}
use Rattle.recovery.specs.Sound.{IsGoodBranch, IsGoodDoubt, IsSound}
use Rattle.recovery.specs.Kept.{is_in_doubt_in, waits}
use Rattle.recovery.specs.StepLaws.{OpeningsAreKept}
use Rattle.recovery.specs.Part.{doubt_at, doubt_branches, doubt_units, doubts_in, opened, outcome_at, outcome_of}
use Rattle.recovery.proofs.Asking.{set}
use Rattle.recovery.proofs.Deciding.{eq_turned}
use Rattle.recovery.proofs.Doubts.{other_first, pairs, pairs_agree, pairs_in, state_here, state_rest, xids_count, xids_in}
use Rattle.recovery.proofs.KeptSteps.{kept_of}
use Rattle.recovery.proofs.Safe.{IsSafe, IsUnit, idle_is}
use Rattle.recovery.proofs.Silent.{same_part}

-- ---- the branches

abbrev first_branch : List ℕ × Doubt → Branch
first_branch e = record { xid = e.0; state = found_state e.1.outcome }

found_doubt : (o : Option Decision) → is_in_doubt (found_state o) ≡ true
found_doubt None = refl
found_doubt (Some d) = refl

found_outcome : (o : Option Decision) → outcome_of (found_state o) ≡ o
found_outcome None = refl
found_outcome (Some d) = refl

above_of : (x : List ℕ) (es : Doubts) → list_all (λ later. is_lt (slice_cmp nat_cmp x later)) (keys_of es) ≡ true → Above x (doubt_branches es)
above_of x [] h = tt
above_of x (e ∷ es) h =
    let t : List ℕ → Bool = λ later. is_lt (slice_cmp nat_cmp x later) in
    (first_true (t e.0) (list_all t (keys_of es)) h, above_of x es (second_true (t e.0) (list_all t (keys_of es)) h))

rises_of : (es : Doubts) → rises (slice_cmp nat_cmp) (keys_of es) ≡ true → Rises (doubt_branches es)
rises_of [] h = tt
rises_of (e ∷ es) h =
    let t : List ℕ → Bool = λ later. is_lt (slice_cmp nat_cmp e.0 later) in
    (above_of e.0 es (first_true (list_all t (keys_of es)) (rises (slice_cmp nat_cmp) (keys_of es)) h), rises_of es (second_true (list_all t (keys_of es)) (rises (slice_cmp nat_cmp) (keys_of es)) h))

pub xids_of : (es : Doubts) → in_doubt_xids (doubt_branches es) ≡ keys_of es
xids_of [] = refl
xids_of (e ∷ es) = xids_in (first_branch e) (doubt_branches es) (found_doubt e.1.outcome) ∙ ap (λ (l : List (List ℕ)). e.0 ∷ l) (xids_of es)

table_of : (es : Doubts) → rises (slice_cmp nat_cmp) (keys_of es) ≡ true → length es ≤ 256 → IsTable (doubt_branches es)
table_of es rise few =
    let size : length (doubt_branches es) ≡ length es = length-map es first_branch in
    let keys : length (in_doubt_xids (doubt_branches es)) ≡ length es = ap (λ (l : List (List ℕ)). length l) (xids_of es) ∙ length-map es (λ (e : List ℕ × Doubt). e.0) in
    let count = xids_count (doubt_branches es) in
    record {
      rising = rising (doubt_branches es) (rises_of es rise);
      known = omega (arith, size, few);
      in_doubt = omega (arith, keys, count, few);
    }

-- ---- the units

-- what holds of the idle unit and of each unit in doubt
each_unit : (P : Work → Type 0) → P idle → ((e : List ℕ × Doubt) → IsGoodDoubt e → P e.1.work) → (es : Doubts) → AllByRecursion IsGoodDoubt es → (o : Owner) → P (unit_of o (doubt_units es))
each_unit P none good [] all o = none
each_unit P none good (e ∷ es) all o = set (global e.0) e.1.work (doubt_units es) P o (λ same. good e all.0) (λ n. each_unit P none good es all.1 o)

good_work : (xid : List ℕ) (work : Work) (outcome : Option Decision) → IsGoodBranch xid work outcome → IsUnit work
good_work xid work None good = record { good = good.good.2.1; once = good.once; claimed = good.claimed }
good_work xid work (Some o) good = subst IsUnit (sym good.1) idle_is

good_unit : (e : List ℕ × Doubt) → IsGoodDoubt e → IsUnit e.1.work
good_unit e good = good_work e.0 e.1.work e.1.outcome good

out_rest : (e : List ℕ × Doubt) (es : Doubts) (o : Owner) → same_owner o (global e.0) ≡ false → is_in_doubt_in (doubt_branches (e ∷ es)) o ≡ false → is_in_doubt_in (doubt_branches es) o ≡ false
out_rest e es (local n) ne out = refl
out_rest e es (global x) ne out = sym (ap waits (state_rest (first_branch e) (doubt_branches es) x (eq_turned x e.0 ne))) ∙ out

-- no other unit has work
out_idle : (es : Doubts) (o : Owner) → is_in_doubt_in (doubt_branches es) o ≡ false → unit_of o (doubt_units es) ≡ idle
out_idle [] o out = refl
out_idle (e ∷ es) o out =
    ⊎_elim
    (λ so. both (is_in_doubt_in (doubt_branches (e ∷ es)) o) (ap (is_in_doubt_in (doubt_branches (e ∷ es))) (owners_same o (global e.0) so) ∙ ap waits (state_here (first_branch e) (doubt_branches es)) ∙ found_doubt e.1.outcome) out)
    (λ n. unit_of_other o (global e.0) e.1.work (doubt_units es) n ∙ out_idle es o (out_rest e es o n out))
    (which (same_owner o (global e.0)))

-- ---- the whole

-- a branch that was decided heuristically has no unit
is_heuristic : (xid : List ℕ) (work : Work) (outcome : Option Decision) (d : Decision) → IsGoodBranch xid work outcome → found_state outcome ≡ Heuristic d → work ≡ idle
is_heuristic xid work None d good is = absurd cc
is_heuristic xid work (Some o) d good is = good.1

ended_of : (es : Doubts) → AllByRecursion IsGoodDoubt es → (x : List ℕ) (d : Decision) → state_of (doubt_branches es) x ≡ Some (Heuristic d) → unit_of (global x) (doubt_units es) ≡ idle
ended_of [] all x d known = refl
ended_of (e ∷ es) all x d known =
    ⊎_elim
    (λ so.
    let at : e.0 ≡ x = same_bytes e.0 x so in
    let is : Some (found_state e.1.outcome) ≡ Some (Heuristic d) = sym (ap (λ t. if t then Some (found_state e.1.outcome) else state_of (doubt_branches es) x) so) ∙ known in
    let state : found_state e.1.outcome ≡ Heuristic d = cc in
    ap (λ (z : List ℕ). unit_of (global z) (doubt_units (e ∷ es))) (sym at) ∙ unit_of_set (global e.0) e.1.work (doubt_units es) ∙ is_heuristic e.0 e.1.work e.1.outcome d all.0 state)
    (λ n. unit_of_other (global x) (global e.0) e.1.work (doubt_units es) (eq_turned e.0 x n) ∙ ended_of es all.1 x d (sym (state_rest (first_branch e) (doubt_branches es) x n) ∙ known))
    (which (bytes_eq e.0 x))

part_of : (es : Doubts) → Rises (doubt_branches es) → doubts_in (doubt_branches es) (doubt_units es) ≡ es
part_of [] rise = refl
part_of (e ∷ es) rise =
    let bs = doubt_branches es in
    let f = doubt_at (doubt_branches (e ∷ es)) (doubt_units (e ∷ es)) in
    let g = doubt_at bs (doubt_units es) in
    let here : f e.0 ≡ e.1 =
    ap (λ (w : Work). let x : Doubt = record { work = w; outcome = outcome_at (state_of (doubt_branches (e ∷ es)) e.0) } in x) (unit_of_set (global e.0) e.1.work (doubt_units es))
    ∙ ap (λ (s : Option BranchState). let x : Doubt = record { work = e.1.work; outcome = outcome_at s } in x) (state_here (first_branch e) bs)
    ∙ ap (λ (o : Option Decision). let x : Doubt = record { work = e.1.work; outcome = o } in x) (found_outcome e.1.outcome) in
    let rest : pairs f bs ≡ pairs g bs =
    pairs_agree f g bs rise.1 (λ x d.
    let n = other_first (first_branch e) bs x d.0 rise.0 d.1 in
    ap (λ (w : Work). let y : Doubt = record { work = w; outcome = outcome_at (state_of (doubt_branches (e ∷ es)) x) } in y) (unit_of_other (global x) (global e.0) e.1.work (doubt_units es) (eq_turned e.0 x n))
    ∙ ap (λ (s : Option BranchState). let y : Doubt = record { work = unit_of (global x) (doubt_units es); outcome = outcome_at s } in y) (state_rest (first_branch e) bs x n)) in
    pairs_in f (first_branch e) bs (found_doubt e.1.outcome) ∙ ap (λ (w : Doubt). (e.0, w) ∷ pairs f bs) here ∙ ap (λ (l : Doubts). e ∷ l) (rest ∙ part_of es rise.1)

opened_safe : (d : Durable) → IsSound d → IsSafe (is_in_doubt_in (doubt_branches d.doubts)) (opened d).base
opened_safe d sound = record {
  store = sound.store;
  each = each_unit IsUnit idle_is good_unit d.doubts sound.good;
  places = λ o out. ap (λ (u : Work). have_places u.changes d.store) (out_idle d.doubts o out);
  alone = λ o p ne out some. both (creates_none (unit_of o (doubt_units d.doubts)).changes) (ap (λ (u : Work). creates_none u.changes) (out_idle d.doubts o out)) some;
}

pub openings_are_kept : OpeningsAreKept
openings_are_kept d sound = record {
  kept = kept_of (opened d) (table_of d.doubts sound.rising sound.few) (ended_of d.doubts sound.good) (opened_safe d sound);
  part = same_part d.store d.store _ _ refl (part_of d.doubts (rises_of d.doubts sound.rising));
}
