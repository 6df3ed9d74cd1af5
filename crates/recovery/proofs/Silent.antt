-- A step for which no record is due changes nothing durable.
use Rattle.std.proofs.Common.{◌≡◌, ◌⊎◌, inl, inr, ⊎_elim, ℕ, Bool, true, false, not, List, [], ◌∷◌, Option, Some, None, refl, sym, ◌∙◌, ap, subst, map}
use Rattle.std.specs.Prelude.{bytes_eq, filter, if◌then◌else◌}
use Rattle.drda_words.proofs.Precedes.{bytes_eq-refl, precedes_other, same_bytes}
use Rattle.tables.specs.Change.{Change}
use Rattle.tables.specs.Tables.{Store}
use Rattle.xa_calls.specs.declared.request.Request.TheVariants as request
use Rattle.xa_manager.specs.declared.branch.Branch.{Branch}
use Rattle.xa_manager.specs.declared.branch.BranchState.{BranchState}
use Rattle.xa_manager.specs.declared.branch.BranchState.TheVariants.{Active, Idle, RollbackOnly}
use Rattle.xa_manager.specs.declared.due.Action.{Action}
use Rattle.xa_manager.specs.declared.due.Action.TheVariants as action
use Rattle.xa_manager.specs.declared.due.Work.{Work as Facts}
use Rattle.xa_manager.specs.Branch.{in_doubt_xids, is_in_doubt, is_lost_with, joined_xid, state_of, with_state, without, without_those_of}
use Rattle.xa_manager.specs.Due.{after, facts_of, left_by}
use Rattle.xa_manager.specs.Laws.{ActionsFit, FitsAction, JoinedIsActive}
use Rattle.xa_manager.proofs.AllCalls.{other_with_branch, other_with_state, other_without, outlives}
use Rattle.xa_manager.proofs.Rising.{Above, Rises, rises, rises_filter}
use Rattle.core_calls.specs.Call as call
use Rattle.core_model.specs.Units.{Held, Owner, global, local, unit_of, view}
use Rattle.core_model.specs.Units as units
use Rattle.core_model.specs.Asked.{Question, describing, querying, running}
use Rattle.core_model.specs.Events.{Ask, Base, Commit, Leave, asked_of, bare, bare_run, happens_asked}
use Rattle.core_model.specs.Step.{CoreState, action_events, due_in, facts, lost_xids, owner_of, step_state, unless_joined}
use Rattle.core_model.specs.Laws.{InXids}
use Rattle.core_model.proofs.Losing.{lost_leaves_nothing}
use Rattle.core_model.proofs.Happening.{others_stay, store_stays}
use Rattle.core_model.proofs.Owners.{both, unit_of_without, which}
use Rattle.recovery.specs.Durable.{Doubts, Durable}
use Rattle.unit_records.specs.Due.{action_due, commit_due}
use Rattle.recovery.specs.Kept.{IsKept, is_in_doubt_in, waits}
use Rattle.recovery.specs.StepLaws.{SilentStepsStay}
use Rattle.recovery.specs.Part.{doubts_in, durable_part}
use Rattle.recovery.proofs.Deciding.{none_left}
use Rattle.recovery.proofs.Doubts.{IsDoubted, doubts_agree, doubts_of, state_here, state_rest, stays_doubted, xids_begun, xids_lost, xids_moved, xids_without}
use Rattle.recovery.proofs.KeptSteps.{apart, left_out, owner_out}

pub same_part : (s t : Store) (d e : Doubts) → s ≡ t → d ≡ e → (let p : Durable = record { store = s; doubts = d } in p) ≡ record { store = t; doubts = e }
same_part s t d e p q = λ i. record { store = p i; doubts = q i }

-- ---- units that are in no doubt

pub out_agree : (bs : List Branch) (hs : List Held) (o : Owner) → Rises bs → is_in_doubt_in bs o ≡ false → doubts_in bs (units.without o hs) ≡ doubts_in bs hs
out_agree bs hs o rise out = doubts_agree bs (units.without o hs) hs rise (λ x d. unit_of_without (global x) o hs (apart bs o x d.0 out d.1 d.2))

-- the branch of an XID in doubt is another than one that is not
pub sure_apart : (bs : List Branch) (x : List ℕ) → waits (state_of bs x) ≡ false → (y : List ℕ) → IsDoubted bs y → bytes_eq x y ≡ false
sure_apart bs x sure y d =
    ⊎_elim
    (λ so. both (waits (state_of bs x)) (ap (λ (z : List ℕ). waits (state_of bs z)) (same_bytes x y so) ∙ ap waits d.1 ∙ d.2) sure)
    (λ n. n)
    (which (bytes_eq x y))

-- and another than the one that is gone
pub sure_apart_left : (bs : List Branch) (x : List ℕ) (y : List ℕ) → IsDoubted (without bs x) y → bytes_eq x y ≡ false
sure_apart_left bs x y d =
    ⊎_elim
    (λ so. both (waits (state_of (without bs x) y)) (ap waits d.1 ∙ d.2) (ap waits (ap (state_of (without bs x)) (sym (same_bytes x y so)) ∙ none_left bs x)))
    (λ n. n)
    (which (bytes_eq x y))

-- the branches in doubt stand as before
abbrev pub StandSame : List Branch → List Branch → Type 0
StandSame cs bs = (x : List ℕ) → IsDoubted bs x → state_of cs x ≡ state_of bs x

-- what is durable where a unit ends, and the branches have changed to others with the same ones in doubt
module _ (bs cs : List Branch) (b : Base) (o : Owner) (before : Rises bs) (rise : Rises cs) (same : in_doubt_xids cs ≡ in_doubt_xids bs) (stand : StandSame cs bs) (out : is_in_doubt_in cs o ≡ false) where
  pub part_committed : durable_part (record { base = bare b (Commit o); branches = cs }) ≡ record { store = view b.store (unit_of o b.units); doubts = doubts_in bs b.units }
  part_committed = same_part _ _ _ _ refl (out_agree cs b.units o rise out ∙ doubts_of cs bs b.units before same stand)

  pub part_left : durable_part (record { base = bare b (Leave o); branches = cs }) ≡ durable_part (record { base = b; branches = bs })
  part_left = same_part _ _ _ _ refl (out_agree cs b.units o rise out ∙ doubts_of cs bs b.units before same stand)

  -- without changes nothing is committed
  pub part_idle : (unit_of o b.units).changes ≡ [] → durable_part (record { base = bare b (Commit o); branches = cs }) ≡ durable_part (record { base = b; branches = bs })
  part_idle none = part_committed ∙ same_part _ _ _ _ (ap (λ (xs : List Change). units.apply_all xs b.store) none) refl

-- a branch that is not in doubt goes with its unit
module _ (bs : List Branch) (x : List ℕ) (old : BranchState) (rise : Rises bs) (known : state_of bs x ≡ Some old) (sure : is_in_doubt old ≡ false) where
  pub rise_without : Rises (without bs x)
  rise_without = rises_filter (λ (b : Branch). not (bytes_eq b.xid x)) bs rise

  pub same_without : in_doubt_xids (without bs x) ≡ in_doubt_xids bs
  same_without = xids_without bs x old rise known sure

  pub out_before : is_in_doubt_in bs (global x) ≡ false
  out_before = ap waits known ∙ sure

  pub stand_without : StandSame (without bs x) bs
  stand_without y d = other_without bs x y (sure_apart bs x out_before y d)

pub out_without : (bs : List Branch) (x : List ℕ) → is_in_doubt_in (without bs x) (global x) ≡ false
out_without bs x = ap waits (none_left bs x)

-- ---- a question

asked_stays : JoinedIsActive → (s : CoreState) (c : ℕ) (q : Question) → IsKept s → durable_part (record { base = bare s.base (Ask (owner_of s.branches c) q); branches = s.branches }) ≡ durable_part s
asked_stays active s c q kept =
    let o = owner_of s.branches c in
    let x = asked_of s.base o q in
    same_part _ _ _ _ (store_stays s.base o x)
    (doubts_agree s.branches (happens_asked s.base o x).units s.base.units (rises s.branches kept.table.rising) (λ y d. others_stay s.base o x (global y) (apart s.branches o y d.0 (owner_out active s.branches c kept.table) d.1 d.2)))

-- ---- the ends of a local unit

pub none_made : (xs : List Change) → commit_due xs ≡ None → xs ≡ []
none_made [] h = refl
none_made (x ∷ xs) h = absurd cc

commit_stays : (s : CoreState) (c : ℕ) (j : Option (List ℕ)) → IsKept s → unless_joined j (commit_due (unit_of (local c) s.base.units).changes) None ≡ None
    → durable_part (record { base = bare_run (unless_joined j (Commit (local c) ∷ []) []) s.base; branches = s.branches }) ≡ durable_part s
commit_stays s c None kept h =
    let rise = rises s.branches kept.table.rising in
    part_idle s.branches s.branches s.base (local c) rise rise refl (λ x d. refl) refl (none_made (unit_of (local c) s.base.units).changes h)
commit_stays s c (Some x) kept h = refl

roll_back_stays : (s : CoreState) (c : ℕ) (j : Option (List ℕ)) → IsKept s → durable_part (record { base = bare_run (unless_joined j (Leave (local c) ∷ []) []) s.base; branches = s.branches }) ≡ durable_part s
roll_back_stays s c None kept = let rise = rises s.branches kept.table.rising in part_left s.branches s.branches s.base (local c) rise rise refl (λ x d. refl) refl
roll_back_stays s c (Some x) kept = refl

-- ---- an action of a branch

-- units stay, and so do the branches in doubt
moved : (s : CoreState) (cs : List Branch) → Rises s.branches → in_doubt_xids cs ≡ in_doubt_xids s.branches → StandSame cs s.branches → durable_part (record { base = s.base; branches = cs }) ≡ durable_part s
moved s cs rise same stand = same_part _ _ _ _ refl (doubts_of cs s.branches s.base.units rise same stand)

-- the state is this one, which is not in doubt
only : (s t : BranchState) (o : Option BranchState) → o ≡ Some t → is_in_doubt t ≡ false → o ≡ Some s → is_in_doubt s ≡ false
only s t o is sure here =
    let same : Some t ≡ Some s = sym is ∙ here in
    sym (ap waits same) ∙ sure

module _ (s : CoreState) (c : ℕ) (x : List ℕ) (w : Facts) (kept : IsKept s) where
  abbrev rise : Rises s.branches
  rise = rises s.branches kept.table.rising

  unit_left : (old : BranchState) → state_of s.branches x ≡ Some old → is_in_doubt old ≡ false → durable_part (record { base = bare s.base (Leave (global x)); branches = without s.branches x }) ≡ durable_part s
  unit_left old known sure = part_left s.branches (without s.branches x) s.base (global x) rise (rise_without s.branches x old rise known sure) (same_without s.branches x old rise known sure) (stand_without s.branches x old rise known sure) (out_without s.branches x)

  unit_idle : (old : BranchState) → state_of s.branches x ≡ Some old → is_in_doubt old ≡ false → commit_due (unit_of (global x) s.base.units).changes ≡ None
      → durable_part (record { base = bare s.base (Commit (global x)); branches = without s.branches x }) ≡ durable_part s
  unit_idle old known sure h =
      part_idle s.branches (without s.branches x) s.base (global x) rise (rise_without s.branches x old rise known sure) (same_without s.branches x old rise known sure) (stand_without s.branches x old rise known sure) (out_without s.branches x) (none_made (unit_of (global x) s.base.units).changes h)

  -- the branch moves, out of doubt
  turned : (new old : BranchState) → state_of s.branches x ≡ Some old → is_in_doubt new ≡ false → is_in_doubt old ≡ false → durable_part (record { base = s.base; branches = with_state s.branches x new }) ≡ durable_part s
  turned new old known sure was =
      moved s (with_state s.branches x new) rise (xids_moved s.branches x new rise sure (λ at is. only at old (state_of s.branches x) known was is))
      (λ y d. other_with_state s.branches x new y (sure_apart s.branches x (ap waits known ∙ was) y d))

  pub action_stays : (a : Action) → FitsAction a (state_of s.branches x) (facts_of s.branches c w) → action_due x (unit_of (global x) s.base.units) a ≡ None
      → durable_part (record { base = bare_run (action_events x a) s.base; branches = after s.branches c x a }) ≡ durable_part s
  action_stays action.Nothing fit h = refl
  action_stays action.Start fit h =
      let new : Branch = record { xid = x; state = Active c } in
      moved s (after s.branches c x action.Start) rise (xids_begun s.branches new refl) (λ y d. other_with_branch s.branches new y (sure_apart s.branches x (ap waits fit.0) y d))
  action_stays action.Join fit h = turned (Active c) (Idle fit.0.0) fit.0.1 refl refl
  action_stays (action.End e) (inl is) h = turned (left_by c e) (Active c) is (left_out c e) refl
  action_stays (action.End e) (inr is) h = turned (left_by c e) (Idle c) is (left_out c e) refl
  action_stays action.Prepare fit h = absurd cc
  action_stays action.EndUnchanged fit h = unit_idle (Idle fit.0) fit.1 refl h
  action_stays action.CommitOnePhase fit h = unit_idle (Idle fit.0) fit.1 refl h
  action_stays (action.Decide o) fit h = absurd cc
  action_stays action.RollBack (inl fit) h = unit_left (Idle fit.0) fit.1 refl
  action_stays action.RollBack (inr fit) h = unit_left (RollbackOnly fit.0) fit.1 refl
  action_stays action.Forget fit h = absurd cc

-- ---- a conversation is lost

abbrev last_of : ℕ → Option BranchState → Bool
last_of c None = false
last_of c (Some s) = is_lost_with c s

module _ (c : ℕ) (y : List ℕ) where
  abbrev lost_by : Bool → Branch → List Branch → List (List ℕ)
  lost_by t b bs = map (λ (r : Branch). r.xid) (if t then b ∷ filter (λ (r : Branch). is_lost_with c r.state) bs else filter (λ (r : Branch). is_lost_with c r.state) bs)

  first_or_later : (t : Bool) (b : Branch) (bs : List Branch) → InXids y (lost_by t b bs) → ((t ≡ true) × (y ≡ b.xid)) ⊎ InXids y (lost_xids bs c)
  first_or_later true b bs (inl e) = inl (refl, e)
  first_or_later true b bs (inr i) = inr i
  first_or_later false b bs i = inr i

  none_behind : (bs : List Branch) → Above y bs → InXids y (lost_xids bs c) → ⊥
  none_behind [] above i = i
  none_behind (b ∷ bs) above i =
      ⊎_elim
      (λ here. both (bytes_eq y b.xid) (ap (bytes_eq y) (sym here.1) ∙ bytes_eq-refl y) (precedes_other y b.xid above.0))
      (λ later. none_behind bs above.1 later)
      (first_or_later (is_lost_with c b.state) b bs i)

  -- a branch in doubt is not lost
  not_lost : (bs : List Branch) (s : BranchState) → Rises bs → state_of bs y ≡ Some s → is_in_doubt s ≡ true → InXids y (lost_xids bs c) → ⊥
  not_lost [] s rise known doubt i = i
  not_lost (b ∷ bs) s rise known doubt i =
      ⊎_elim
      (λ here. both (is_lost_with c b.state) here.0 (ap (last_of c) (sym (state_here b bs) ∙ ap (state_of (b ∷ bs)) (sym here.1) ∙ known) ∙ stays_doubted c s doubt))
      (λ later. ⊎_elim
      (λ so. none_behind bs (subst (λ (z : List ℕ). Above z bs) (same_bytes b.xid y so) rise.0) later)
      (λ n. not_lost bs s rise.1 (sym (state_rest b bs y n) ∙ known) doubt later)
      (which (bytes_eq b.xid y)))
      (first_or_later (is_lost_with c b.state) b bs i)

lost_stays : (s : CoreState) (c : ℕ) → IsKept s → durable_part (step_state s c call.lost) ≡ durable_part s
lost_stays s c kept =
    let rise = rises s.branches kept.table.rising in
    let behind = (step_state s c call.lost).base in
    let all = lost_leaves_nothing s c in
    same_part behind.store s.base.store (doubts_in (without_those_of s.branches c) behind.units) (doubts_in s.branches s.base.units) all.store
    (doubts_of (without_those_of s.branches c) s.branches behind.units rise (xids_lost s.branches c rise) (λ y d. outlives s.branches c y d.0 (stays_doubted c d.0 d.2) d.1 ∙ sym d.1)
    ∙ doubts_agree s.branches behind.units s.base.units rise (λ y d. all.globals y (not_lost c y s.branches d.0 rise d.1 d.2)))

-- ---- the step

pub silent_steps_stay : JoinedIsActive → ActionsFit → SilentStepsStay
silent_steps_stay active fits s c (call.run st params) kept h = asked_stays active s c (running st params) kept
silent_steps_stay active fits s c (call.query st params) kept h = asked_stays active s c (querying st params) kept
silent_steps_stay active fits s c (call.describe st d) kept h = asked_stays active s c (describing st d) kept
silent_steps_stay active fits s c call.commit kept h = commit_stays s c (joined_xid s.branches c) kept h
silent_steps_stay active fits s c call.roll_back kept h = roll_back_stays s c (joined_xid s.branches c) kept
silent_steps_stay active fits s c (call.xa None) kept h = refl
silent_steps_stay active fits s c (call.xa (Some request.Recover)) kept h = refl
silent_steps_stay active fits s c (call.xa (Some (request.Branch verb x))) kept h =
    action_stays s c x (facts s.base c x) kept (due_in s.branches s.base c verb x).action (fits s.branches c verb x (facts s.base c x)) h
silent_steps_stay active fits s c call.lost kept h = lost_stays s c kept
