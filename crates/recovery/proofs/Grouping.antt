-- Calls that are made together: their records have their places one behind another, lead to what is durable behind them all, and
-- release what is held for branches in doubt.
use Rattle.std.proofs.Common.{◌≡◌, ◌≤◌, ◌+◌, ℕ, Bool, true, false, List, [], ◌∷◌, Option, Some, None, cond, refl, sym, ◌∙◌, ap, subst, arith, true≢false}
use Rattle.std.specs.Prelude.{◌&&◌, bytes_eq, not}
use Rattle.std.specs.List.{list_any}
use Rattle.std.specs.Option.{option_and_then}
use Rattle.row_values.proofs.ValueLaws.{first_true, second_true}
use Rattle.tables.proofs.Finding.{same_bytes}
use Rattle.unit_locks.proofs.Tests.{left_false, right_false}
use Rattle.xa_manager.specs.declared.branch.BranchState.{BranchState}
use Rattle.xa_manager.specs.declared.branch.BranchState.TheVariants.{Active, Heuristic, Idle, Prepared, RollbackOnly}
use Rattle.xa_manager.specs.declared.due.Decision.{Decision}
use Rattle.xa_manager.specs.Branch.{state_of}
use Rattle.core_model.specs.Units.{Held, Owner, Work, global, has_any, same_owner, unit_of}
use Rattle.core_model.specs.Step.{CoreState, step_state}
use Rattle.half_store.specs.declared.header.Layout.{Layout}
use Rattle.unit_records.specs.Records.{decided}
use Rattle.unit_records.specs.Room.{held_in_doubt, released_by}
use Rattle.unit_records.specs.Together.{AreTaken, CallsGoTogether, all_made, are_apart, are_few, are_ready, call_for, is_ready, owner_for, owner_in, record_for, record_of, records_of, stands_alone, stands_for, works_for}
use Rattle.unit_records.specs.declared.group_call.Asked.{Asked}
use Rattle.unit_records.specs.declared.group_call.Asked.TheVariants.{Commit, Through}
use Rattle.unit_records.specs.declared.group_call.GroupCall.{GroupCall}
use Rattle.unit_records.specs.declared.phase.Phase.TheVariants.{Decide, Prepare}
use Rattle.recovery.specs.Durable.{Doubt, Doubts, Durable, decide, doubt_of, ended, replayed_from, waiting, without_doubt}
use Rattle.recovery.specs.Kept.{IsKept}
use Rattle.recovery.specs.Known.{ReleaseAll}
use Rattle.recovery.specs.Laws.{HeldForDoubts, held_for}
use Rattle.recovery.specs.Part.{doubt_at, durable_part, outcome_at}
use Rattle.recovery.specs.StepLaws.{GroupsAreOfDoubts, GroupsKeep, GroupsLead, RecordsLead, StepsKeep}
use Rattle.recovery.proofs.Deciding.{doubted}
use Rattle.recovery.proofs.DueRecords.{is_other, other_releases}
use Rattle.recovery.proofs.Holding.{not_true}

module _ (keep : StepsKeep) where
  kept_behind : (cs : List GroupCall) (s : CoreState) → IsKept s → IsKept (all_made cs s)
  kept_behind [] s kept = kept
  kept_behind (c ∷ cs) s kept = kept_behind cs (step_state s c.conversation (call_for c.asked)) (keep s c.conversation (call_for c.asked) kept)

  pub groups_keep : GroupsKeep
  groups_keep s cs kept = kept_behind cs s kept

  module _ (lead : RecordsLead) where
    -- by the units before all of the calls
    lead_behind : (units : List Held) (cs : List GroupCall) (s : CoreState) → IsKept s → AreTaken units cs s → replayed_from (durable_part s) (records_of units cs) ≡ Some (durable_part (all_made cs s))
    lead_behind units [] s kept taken = refl
    lead_behind units (c ∷ cs) s kept taken =
        ap (option_and_then (λ (e : Durable). replayed_from e (records_of units cs))) (lead s c.conversation (call_for c.asked) (record_of units c) kept taken.1)
        ∙ lead_behind units cs (step_state s c.conversation (call_for c.asked)) (keep s c.conversation (call_for c.asked) kept) taken.2

    pub groups_lead : CallsGoTogether → GroupsLead
    groups_lead together s cs kept may = lead_behind s.base.units cs s kept (together cs s kept.table.rising may).taken

-- ---- what they release

other_record : (a : Asked) (w : Work) → is_other (record_for a w) ≡ true
other_record Commit w = refl
other_record (Through Prepare x) w = refl
other_record (Through (Decide o) x) w = refl

releases : (layout : Layout) (units : List Held) (cs : List GroupCall) (d : Durable) → ReleaseAll layout d (records_of units cs)
releases layout units [] d = tt
releases layout units (c ∷ cs) d = (other_releases layout d (record_of units c) (other_record c.asked (unit_of (owner_in c) units)), λ e step. releases layout units cs e)

-- the branch of an XID waits for its decision
abbrev IsWaiting : Doubts → List ℕ → Type 0
IsWaiting doubts x = (work : Work) × (doubt_of doubts x ≡ Some (waiting work))

-- so does one that is decided
abbrev Waits : Doubts → Asked → Type 0
Waits doubts Commit = Unit {0}
Waits doubts (Through Prepare x) = Unit {0}
Waits doubts (Through (Decide o) x) = IsWaiting doubts x

abbrev AllWait : Doubts → List GroupCall → Type 0
AllWait doubts [] = Unit {0}
AllWait doubts (c ∷ cs) = Waits doubts c.asked × AllWait doubts cs

-- another is found where one is taken out
found_still : (x y : List ℕ) (e : List ℕ × Doubt) (es rest : Doubts) (b : Bool) → bytes_eq x e.0 ≡ b → bytes_eq y x ≡ false → doubt_of rest y ≡ doubt_of es y → doubt_of (cond b es (e ∷ rest)) y ≡ doubt_of (e ∷ es) y
found_still x y e es rest true is ne same = sym (ap (λ (b : Bool). cond b (Some e.1) (doubt_of es y)) (subst (λ (z : List ℕ). bytes_eq y z ≡ false) (same_bytes x e.0 is) ne))
found_still x y e es rest false is ne same = ap (λ (o : Option Doubt). cond (bytes_eq y e.0) (Some e.1) o) same

others_found : (doubts : Doubts) (x y : List ℕ) → bytes_eq y x ≡ false → doubt_of (without_doubt doubts x) y ≡ doubt_of doubts y
others_found [] x y ne = refl
others_found (e ∷ es) x y ne = found_still x y e es (without_doubt es x) (bytes_eq x e.0) refl ne (others_found es x y ne)

one_waits : (doubts : Doubts) (x : List ℕ) (n : ℕ) (a : Asked) → same_owner (owner_for n a) (global x) ≡ false → Waits doubts a → Waits (without_doubt doubts x) a
one_waits doubts x n Commit ne w = tt
one_waits doubts x n (Through Prepare y) ne w = tt
one_waits doubts x n (Through (Decide o) y) ne w = (w.0, others_found doubts x y ne ∙ w.1)

-- those behind it wait still
abbrev is_among : Owner → List GroupCall → Bool
is_among p cs = list_any (λ (d : GroupCall). same_owner (owner_in d) p) cs

others_wait : (doubts : Doubts) (x : List ℕ) (cs : List GroupCall) → is_among (global x) cs ≡ false → AllWait doubts cs → AllWait (without_doubt doubts x) cs
others_wait doubts x [] apart all = tt
others_wait doubts x (c ∷ cs) apart all = (
  one_waits doubts x c.conversation c.asked (left_false (same_owner (owner_in c) (global x)) (is_among (global x) cs) apart) all.0,
  others_wait doubts x cs (right_false (same_owner (owner_in c) (global x)) (is_among (global x) cs) apart) all.1,
)

module _ (held : HeldForDoubts) (layout : Layout) where
  -- one decision releases what was held for its branch
  one_released : (d : Durable) (x : List ℕ) (o : Decision) → (w : IsWaiting d.doubts x) → held_for layout (without_doubt d.doubts x) + held_in_doubt layout x ≡ held_for layout d.doubts
  one_released d x o w =
      let e : Durable = record { store = decide o d.store w.0; doubts = without_doubt d.doubts x } in
      let sum = held layout d e (decided x o) tt (ap (option_and_then (ended d x o)) w.1) in
      omega (arith, sum)

  -- the first of them, and those behind it
  first_released : (units : List Held) (n : ℕ) (a : Asked) (w : Work) (d : Durable) (more : ℕ) → Waits d.doubts a → more ≤ held_for layout d.doubts
      → ((x : List ℕ) → owner_for n a ≡ global x → more ≤ held_for layout (without_doubt d.doubts x)) → released_by layout (record_for a w ∷ []) + more ≤ held_for layout d.doubts
  first_released units n Commit w d more is all rest = omega (arith, all)
  first_released units n (Through Prepare x) w d more is all rest = omega (arith, all)
  first_released units n (Through (Decide o) x) w d more is all rest = let sum = one_released d x o is in let less = rest x refl in omega (arith, sum, less)

  all_released : (units : List Held) (cs : List GroupCall) (d : Durable) → are_apart cs ≡ true → AllWait d.doubts cs → released_by layout (records_of units cs) ≤ held_for layout d.doubts
  all_released units [] d apart all = omega arith
  all_released units (c ∷ cs) d apart all =
      let others = is_among (owner_in c) cs in
      let none = not_true others (first_true (not others) (are_apart cs) apart) in
      let rest = second_true (not others) (are_apart cs) apart in
      let sum = first_released units c.conversation c.asked (unit_of (owner_in c) units) d (released_by layout (records_of units cs)) all.0 (all_released units cs d rest all.1)
      (λ x is. let e : Durable = record { store = d.store; doubts = without_doubt d.doubts x } in all_released units cs e rest (others_wait d.doubts x cs (subst (λ (p : Owner). is_among p cs ≡ false) is none) all.1)) in
      omega (arith, sum)

prepared_for : (o : Decision) (st : Option BranchState) → stands_for (Decide o) st ≡ true → st ≡ Some Prepared
prepared_for o (Some Prepared) h = refl
prepared_for o (Some (Idle n)) h = absurd cc
prepared_for o (Some (Active n)) h = absurd cc
prepared_for o (Some (RollbackOnly n)) h = absurd cc
prepared_for o (Some (Heuristic d)) h = absurd cc
prepared_for o None h = absurd cc

-- a branch that may be decided waits for it
waits_in : (s : CoreState) (n : ℕ) (a : Asked) → stands_alone s n a ≡ true → Waits (durable_part s).doubts a
waits_in s n Commit ready = tt
waits_in s n (Through Prepare x) ready = tt
waits_in s n (Through (Decide o) x) ready =
    let known = prepared_for o (state_of s.branches x) (first_true (stands_for (Decide o) (state_of s.branches x)) (works_for (Decide o) (unit_of (global x) s.base.units).changes) ready) in
    let work : Work = unit_of (global x) s.base.units in
    (work, doubted (doubt_at s.branches s.base.units) s.branches x Prepared known refl ∙ ap (λ (t : Option BranchState). let e : Option Doubt = Some (record { work = work; outcome = outcome_at t }) in e) known)

all_wait_in : (s : CoreState) (cs : List GroupCall) → are_ready s cs ≡ true → AllWait (durable_part s).doubts cs
all_wait_in s [] ready = tt
all_wait_in s (c ∷ cs) ready = (waits_in s c.conversation c.asked (first_true (is_ready s c) (are_ready s cs) ready), all_wait_in s cs (second_true (is_ready s c) (are_ready s cs) ready))

pub groups_are_of_doubts : HeldForDoubts → GroupsAreOfDoubts
groups_are_of_doubts held layout s cs kept may =
    let each = second_true (has_any cs) (are_apart cs && (are_ready s cs && are_few s.branches cs)) may in
    let apart = first_true (are_apart cs) (are_ready s cs && are_few s.branches cs) each in
    let ready = first_true (are_ready s cs) (are_few s.branches cs) (second_true (are_apart cs) (are_ready s cs && are_few s.branches cs) each) in
    (all_released held layout s.base.units cs (durable_part s) apart (all_wait_in s cs ready), releases layout s.base.units cs (durable_part s))
