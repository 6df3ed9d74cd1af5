-- Every step of a kept core keeps it.
use Rattle.std.proofs.Common.{◌≡◌, ◌⊎◌, inl, inr, ⊎_elim, ℕ, Bool, true, false, not, List, [], ◌∷◌, Option, Some, None, refl, sym, ◌∙◌, ap, subst}
use Rattle.std.specs.Prelude.{bytes_eq, filter, if◌then◌else◌, option_map, unwrap_or}
use Rattle.drda_words.proofs.Precedes.{same_bytes}
use Rattle.drda_words.specs.Order.{IsRising}
use Rattle.tables.specs.Laws.{StoresAreKept}
use Rattle.unit_locks.specs.Claims.{AddsClaims}
use Rattle.xa_calls.specs.declared.request.Ending.{Ending}
use Rattle.xa_calls.specs.declared.request.Ending.TheVariants as ending
use Rattle.xa_calls.specs.declared.request.Request.TheVariants as request
use Rattle.xa_manager.specs.declared.branch.Branch.{Branch}
use Rattle.xa_manager.specs.declared.branch.BranchState.{BranchState}
use Rattle.xa_manager.specs.declared.branch.BranchState.TheVariants.{Active, Heuristic, Idle, Prepared, RollbackOnly}
use Rattle.xa_manager.specs.declared.due.Decision.{Decision}
use Rattle.xa_manager.specs.declared.due.Decision.TheVariants as decision
use Rattle.xa_manager.specs.declared.due.Action.{Action}
use Rattle.xa_manager.specs.declared.due.Action.TheVariants as action
use Rattle.xa_manager.specs.declared.due.Work.{Work as Facts}
use Rattle.xa_manager.specs.Branch.{IsTable, is_in_doubt, is_lost_with, joined_xid, state_of, with_state}
use Rattle.xa_manager.specs.Due.{after, facts_of, left_by, next_state}
use Rattle.xa_manager.specs.Laws.{ActionsFit, FitsAction, JoinedIsActive}
use Rattle.xa_manager.proofs.AllCalls.{decides_one, moves_one}
use Rattle.xa_manager.proofs.Rising.{Rises, rises, table_branch, table_decided, table_filter, table_state}
use Rattle.core_calls.specs.Call as call
use Rattle.core_calls.specs.Call.{Call}
use Rattle.core_model.specs.Units.{Owner, global, idle, local, same_owner, unit_of, without}
use Rattle.core_model.specs.Asked.{Question, describing, querying, running}
use Rattle.core_model.specs.Events.{Ask, Base, Commit, Event, Leave, asked_of, bare, bare_run}
use Rattle.core_model.specs.Step.{CoreState, action_events, decided_state, due_in, events, facts, lost_xids, next, owner_of, step_state}
use Rattle.core_model.specs.Laws.{Ends, InDoubtWait}
use Rattle.core_model.proofs.Happening.{others_stay}
use Rattle.core_model.proofs.Keeping.{NoAsks, of_action, of_commit, of_lost, of_roll_back, of_xa}
use Rattle.core_model.proofs.Owners.{both, owners_same, unit_of_gone, which}
use Rattle.recovery.specs.Places.{ChangesKeepTables, PlacesGoOn, RowsKeepPlaces, TablesGivePlaces}
use Rattle.recovery.specs.QuestionPlaces.{ChangesHavePlaces, CreationsClaimNames}
use Rattle.recovery.specs.Kept.{IsKept, is_in_doubt_in, waits}
use Rattle.recovery.specs.StepLaws.{DecisionsKeep, StepsKeep}
use Rattle.recovery.proofs.Asking.{ask_safe}
use Rattle.recovery.proofs.Doubts.{state_behind, state_rest}
use Rattle.recovery.proofs.Safe.{IsSafe, commit_safe, found_less, gone, leave_safe}

-- ---- the branches stay a table

pub left_out : (c : ℕ) (e : Ending) → is_in_doubt (left_by c e) ≡ false
left_out c ending.Kept = refl
left_out c ending.Failed = refl

table_after : (bs : List Branch) (c : ℕ) (xid : List ℕ) (a : Action) (w : Facts) → FitsAction a (state_of bs xid) (facts_of bs c w) → IsTable bs → IsTable (after bs c xid a)
table_after bs c xid action.Nothing w fit t = t
table_after bs c xid action.Start w fit t = table_branch bs (record { xid = xid; state = Active c }) t fit.0 fit.2 (λ e. both false e refl)
table_after bs c xid action.Join w fit t = table_state bs xid (Active c) (Idle fit.0.0) t fit.0.1 (λ e. both false e refl)
table_after bs c xid (action.End g) w (inl is) t = table_state bs xid (left_by c g) (Active c) t is (λ e. both (is_in_doubt (left_by c g)) e (left_out c g))
table_after bs c xid (action.End g) w (inr is) t = table_state bs xid (left_by c g) (Idle c) t is (λ e. both (is_in_doubt (left_by c g)) e (left_out c g))
table_after bs c xid action.Prepare w fit t = table_state bs xid Prepared (Idle fit.0.0) t fit.0.1 (λ e. fit.1)
table_after bs c xid action.EndUnchanged w fit t = table_filter (λ (b : Branch). not (bytes_eq b.xid xid)) bs t
table_after bs c xid action.CommitOnePhase w fit t = table_filter (λ (b : Branch). not (bytes_eq b.xid xid)) bs t
table_after bs c xid (action.Decide o) w fit t = table_filter (λ (b : Branch). not (bytes_eq b.xid xid)) bs t
table_after bs c xid action.RollBack w fit t = table_filter (λ (b : Branch). not (bytes_eq b.xid xid)) bs t
table_after bs c xid action.Forget w fit t = table_filter (λ (b : Branch). not (bytes_eq b.xid xid)) bs t

table_next : ActionsFit → (bs : List Branch) (b : Base) (c : ℕ) (k : Call) → IsTable bs → IsTable (next bs b c k)
table_next fits bs b c (call.run st params) t = t
table_next fits bs b c (call.query st params) t = t
table_next fits bs b c (call.describe st d) t = t
table_next fits bs b c call.commit t = t
table_next fits bs b c call.roll_back t = t
table_next fits bs b c (call.xa None) t = t
table_next fits bs b c (call.xa (Some request.Recover)) t = t
table_next fits bs b c (call.xa (Some (request.Branch verb xid))) t = table_after bs c xid (due_in bs b c verb xid).action (facts b c xid) (fits bs c verb xid (facts b c xid)) t
table_next fits bs b c call.lost t = table_filter (λ (r : Branch). not (is_lost_with c r.state)) bs t

-- ---- units in doubt

-- a branch in doubt is prepared, or was decided heuristically
pub doubt_is : (o : Option BranchState) → waits o ≡ true → (o ≡ Some Prepared) ⊎ ((d : Decision) × (o ≡ Some (Heuristic d)))
doubt_is None h = both false h refl
doubt_is (Some (Active c)) h = both false h refl
doubt_is (Some (Idle c)) h = both false h refl
doubt_is (Some (RollbackOnly c)) h = both false h refl
doubt_is (Some Prepared) h = inl refl
doubt_is (Some (Heuristic d)) h = inr (d, refl)

-- the unit of a branch in doubt is another than one that is not in doubt
pub apart : (bs : List Branch) (o : Owner) (x : List ℕ) (s : BranchState) → is_in_doubt_in bs o ≡ false → state_of bs x ≡ Some s → is_in_doubt s ≡ true → same_owner (global x) o ≡ false
apart bs o x s out known doubt =
    ⊎_elim
    (λ so. both (is_in_doubt_in bs o) (ap (is_in_doubt_in bs) (sym (owners_same (global x) o so)) ∙ ap waits known ∙ doubt) out)
    (λ n. n)
    (which (same_owner (global x) o))

-- no call but a heuristic decision makes a branch one that was decided so
was_heuristic : (c : ℕ) (a : Action) (s : Option BranchState) (d : Decision) → next_state c a s ≡ Some (Heuristic d) → s ≡ Some (Heuristic d)
was_heuristic c action.Nothing s d h = h
was_heuristic c action.Start s d h = absurd cc
was_heuristic c action.Join s d h = absurd cc
was_heuristic c (action.End ending.Kept) s d h = absurd cc
was_heuristic c (action.End ending.Failed) s d h = absurd cc
was_heuristic c action.EndUnchanged s d h = absurd cc
was_heuristic c action.Prepare s d h = absurd cc
was_heuristic c action.CommitOnePhase s d h = absurd cc
was_heuristic c (action.Decide o) s d h = absurd cc
was_heuristic c action.RollBack s d h = absurd cc
was_heuristic c action.Forget s d h = absurd cc

-- what is left of branches stood so before
state_filter : (q : Branch → Bool) (bs : List Branch) (x : List ℕ) (s : BranchState) → Rises bs → state_of (filter q bs) x ≡ Some s → state_of bs x ≡ Some s
state_filter q [] x s rise h = h
state_filter q (b ∷ bs) x s rise h =
    let picked : Bool → Option BranchState = λ t. state_of (if t then b ∷ filter q bs else filter q bs) x in
    ⊎_elim
    (λ stays.
    let here : state_of (b ∷ filter q bs) x ≡ Some s = sym (ap picked stays) ∙ h in
    ⊎_elim
    (λ so. ap (λ t. if t then Some b.state else state_of bs x) so ∙ sym (ap (λ t. if t then Some b.state else state_of (filter q bs) x) so) ∙ here)
    (λ n. state_rest b bs x n ∙ state_filter q bs x s rise.1 (sym (state_rest b (filter q bs) x n) ∙ here))
    (which (bytes_eq b.xid x)))
    (λ goes. state_behind b bs x s rise.0 (state_filter q bs x s rise.1 (sym (ap picked goes) ∙ h)))
    (which (q b))

heuristic_before : ActionsFit → (bs : List Branch) (b : Base) (c : ℕ) (k : Call) (x : List ℕ) (d : Decision) → IsTable bs → state_of (next bs b c k) x ≡ Some (Heuristic d) → state_of bs x ≡ Some (Heuristic d)
heuristic_before fits bs b c (call.run st params) x d t h = h
heuristic_before fits bs b c (call.query st params) x d t h = h
heuristic_before fits bs b c (call.describe st e) x d t h = h
heuristic_before fits bs b c call.commit x d t h = h
heuristic_before fits bs b c call.roll_back x d t h = h
heuristic_before fits bs b c (call.xa None) x d t h = h
heuristic_before fits bs b c (call.xa (Some request.Recover)) x d t h = h
heuristic_before fits bs b c (call.xa (Some (request.Branch verb asked))) x d t h =
    let a = (due_in bs b c verb asked).action in
    let moved = moves_one bs c verb asked x (facts b c asked) in
    let by : Bool → Option BranchState = λ q. if q then next_state c a (state_of bs asked) else state_of bs x in
    ⊎_elim
    (λ so.
    let was = was_heuristic c a (state_of bs asked) d (sym (ap by so) ∙ sym moved ∙ h) in
    sym (ap (state_of bs) (same_bytes asked x so)) ∙ was)
    (λ n. sym (ap by n) ∙ sym moved ∙ h)
    (which (bytes_eq asked x))
heuristic_before fits bs b c call.lost x d t h = state_filter (λ (r : Branch). not (is_lost_with c r.state)) bs x (Heuristic d) (rises bs t.rising) h

-- who asks is not in doubt
asker_out : JoinedIsActive → (bs : List Branch) (c : ℕ) (j : Option (List ℕ)) → joined_xid bs c ≡ j → IsRising (λ (b : Branch). b.xid) bs → is_in_doubt_in bs (unwrap_or (option_map (λ (x : List ℕ). global x) j) (local c)) ≡ false
asker_out active bs c None is rising = refl
asker_out active bs c (Some x) is rising = ap waits (active bs c x rising is)

pub owner_out : JoinedIsActive → (bs : List Branch) (c : ℕ) → IsTable bs → is_in_doubt_in bs (owner_of bs c) ≡ false
owner_out active bs c t = asker_out active bs c (joined_xid bs c) refl t.rising

still_idle : (o : Owner) (es : List Event) (b : Base) → NoAsks es → unit_of o b.units ≡ idle → unit_of o (bare_run es b).units ≡ idle
still_idle o [] b none h = h
still_idle o (Ask p q ∷ es) b none h = absurd none
still_idle o (Commit p ∷ es) b none h = still_idle o es (bare b (Commit p)) none (gone p b.units (λ u. u ≡ idle) o refl (λ n. h))
still_idle o (Leave p ∷ es) b none h = still_idle o es (bare b (Leave p)) none (gone p b.units (λ u. u ≡ idle) o refl (λ n. h))

idle_here : (o p : Owner) (b : Base) → o ≡ p → unit_of o (without p b.units) ≡ idle
idle_here o p b e = subst (λ (n : Owner). unit_of n (without p b.units) ≡ idle) (sym e) (unit_of_gone p b.units)

ends_idle : (o : Owner) (es : List Event) (b : Base) → NoAsks es → Ends o es → unit_of o (bare_run es b).units ≡ idle
ends_idle o [] b none ends = absurd ends
ends_idle o (Ask p q ∷ es) b none ends = absurd none
ends_idle o (Commit p ∷ es) b none (inl e) = still_idle o es (bare b (Commit p)) none (idle_here o p b e)
ends_idle o (Commit p ∷ es) b none (inr ends) = ends_idle o es (bare b (Commit p)) none ends
ends_idle o (Leave p ∷ es) b none (inl e) = still_idle o es (bare b (Leave p)) none (idle_here o p b e)
ends_idle o (Leave p ∷ es) b none (inr ends) = ends_idle o es (bare b (Leave p)) none ends

-- the units of branches that were decided heuristically have ended
abbrev pub AreEnded : List Branch → Base → Type 0
AreEnded bs b = (xid : List ℕ) (d : Decision) → state_of bs xid ≡ Some (Heuristic d) → unit_of (global xid) b.units ≡ idle

-- a unit that is no longer in doubt has ended
out_after : InDoubtWait → (bs : List Branch) (b : Base) (c : ℕ) (k : Call) → NoAsks (events bs b c k) → AreEnded bs b → (o : Owner) → is_in_doubt_in (next bs b c k) o ≡ false → (is_in_doubt_in bs o ≡ false) ⊎ (unit_of o (bare_run (events bs b c k) b).units ≡ idle)
out_after wait bs b c k none ended (local n) h = inl refl
out_after wait bs b c k none ended (global xid) h =
    ⊎_elim
    (λ so. ⊎_elim
    (λ prepared. ⊎_elim
    (λ still. both (waits (state_of (next bs b c k) xid)) (ap waits still) h)
    (λ ends. inr (ends_idle (global xid) (events bs b c k) b none ends))
    ((wait bs b c k).stays xid prepared))
    (λ heuristic. inr (still_idle (global xid) (events bs b c k) b none (ended xid heuristic.0 heuristic.1)))
    (doubt_is (state_of bs xid) so))
    (λ n. inl n)
    (which (waits (state_of bs xid)))

-- ---- the step

pub safe_of : (s : CoreState) → IsKept s → IsSafe (is_in_doubt_in s.branches) s.base
safe_of s kept = record {
  store = kept.store;
  each = λ o. record { good = kept.good o; once = kept.once o; claimed = kept.claimed o };
  places = kept.places;
  alone = kept.alone;
}

pub kept_of : (s : CoreState) → IsTable s.branches → AreEnded s.branches s.base → IsSafe (is_in_doubt_in s.branches) s.base → IsKept s
kept_of s table ended safe = record {
  table = table;
  store = safe.store;
  places = safe.places;
  good = λ o. (safe.each o).good;
  once = λ o. (safe.each o).once;
  claimed = λ o. (safe.each o).claimed;
  ended = ended;
  alone = safe.alone;
}

module _ (keep : StoresAreKept) (rows : RowsKeepPlaces) (tables : TablesGivePlaces) (kept_tables : ChangesKeepTables) (go_on : PlacesGoOn) (adds : AddsClaims) where
  run_safe : (found : Owner → Bool) (es : List Event) (b : Base) → NoAsks es → IsSafe found b → IsSafe found (bare_run es b)
  run_safe found [] b none h = h
  run_safe found (Ask o q ∷ es) b none h = absurd none
  run_safe found (Commit o ∷ es) b none h = run_safe found es (bare b (Commit o)) none (commit_safe keep rows tables kept_tables found b o h)
  run_safe found (Leave o ∷ es) b none h = run_safe found es (bare b (Leave o)) none (leave_safe found b o h)

  module _ (placed : ChangesHavePlaces) (names : CreationsClaimNames) (fits : ActionsFit) (active : JoinedIsActive) (wait : InDoubtWait) where
    asked_keeps : (s : CoreState) (c : ℕ) (q : Question) → IsKept s → IsKept (record { base = bare s.base (Ask (owner_of s.branches c) q); branches = s.branches })
    asked_keeps s c q kept =
        let o = owner_of s.branches c in
        kept_of (record { base = bare s.base (Ask o q); branches = s.branches }) kept.table
        (λ xid d known. others_stay s.base o (asked_of s.base o q) (global xid) (apart s.branches o xid (Heuristic d) (owner_out active s.branches c kept.table) known refl) ∙ kept.ended xid d known)
        (ask_safe adds go_on keep placed names (is_in_doubt_in s.branches) s.base o q (owner_out active s.branches c kept.table) (safe_of s kept))

    other_keeps : (s : CoreState) (c : ℕ) (k : Call) → NoAsks (events s.branches s.base c k) → IsKept s → IsKept (step_state s c k)
    other_keeps s c k none kept =
        let behind = bare_run (events s.branches s.base c k) s.base in
        let bs = next s.branches s.base c k in
        kept_of (step_state s c k) (table_next fits s.branches s.base c k kept.table)
        (λ xid d known. still_idle (global xid) (events s.branches s.base c k) s.base none (kept.ended xid d (heuristic_before fits s.branches s.base c k xid d kept.table known)))
        (found_less (is_in_doubt_in s.branches) (is_in_doubt_in bs) behind (out_after wait s.branches s.base c k none kept.ended)
        (run_safe (is_in_doubt_in s.branches) (events s.branches s.base c k) s.base none (safe_of s kept)))

    pub steps_keep : StepsKeep
    steps_keep s c (call.run st params) kept = asked_keeps s c (running st params) kept
    steps_keep s c (call.query st params) kept = asked_keeps s c (querying st params) kept
    steps_keep s c (call.describe st d) kept = asked_keeps s c (describing st d) kept
    steps_keep s c call.commit kept = other_keeps s c call.commit (of_commit (local c) (joined_xid s.branches c)) kept
    steps_keep s c call.roll_back kept = other_keeps s c call.roll_back (of_roll_back (local c) (joined_xid s.branches c)) kept
    steps_keep s c (call.xa r) kept = other_keeps s c (call.xa r) (of_xa s.branches s.base c r) kept
    steps_keep s c call.lost kept = other_keeps s c call.lost (of_lost (lost_xids s.branches c)) kept

    -- ---- a heuristic decision

    -- a branch that is decided so is in doubt as before
    doubted_after : (bs : List Branch) (x : List ℕ) (d : Decision) (o : Owner) → state_of bs x ≡ Some Prepared → is_in_doubt_in (with_state bs x (Heuristic d)) o ≡ false → is_in_doubt_in bs o ≡ false
    doubted_after bs x d (local n) known h = refl
    doubted_after bs x d (global y) known h =
        let one = decides_one bs x d y known in
        let by : Bool → Option BranchState = λ q. if q then Some (Heuristic d) else state_of bs y in
        ⊎_elim
        (λ so. both (waits (state_of (with_state bs x (Heuristic d)) y)) (ap waits (one ∙ ap by so)) h)
        (λ n. sym (ap waits (one ∙ ap by n)) ∙ h)
        (which (bytes_eq x y))

    pub decisions_keep : DecisionsKeep
    decisions_keep s x d kept known =
        let es = action_events x (action.Decide d) in
        let bs = s.branches in
        let behind = bare_run es s.base in
        let none = of_action x (action.Decide d) in
        let gone : unit_of (global x) behind.units ≡ idle = ends_idle (global x) es s.base none (decision_ends x d) in
        kept_of (decided_state s x d) (table_decided bs x d kept.table known)
        (λ y o state.
        let one = decides_one bs x d y known in
        let by : Bool → Option BranchState = λ q. if q then Some (Heuristic d) else state_of bs y in
        ⊎_elim
        (λ so. subst (λ (z : List ℕ). unit_of (global z) behind.units ≡ idle) (same_bytes x y so) gone)
        (λ n. still_idle (global y) es s.base none (kept.ended y o (sym (one ∙ ap by n) ∙ state)))
        (which (bytes_eq x y)))
        (found_less (is_in_doubt_in bs) (is_in_doubt_in (with_state bs x (Heuristic d))) behind (λ o out. inl (doubted_after bs x d o known out))
        (run_safe (is_in_doubt_in bs) es s.base none (safe_of s kept)))
      where
        decision_ends : (x : List ℕ) (d : Decision) → Ends (global x) (action_events x (action.Decide d))
        decision_ends x decision.Commit = inl refl
        decision_ends x decision.RollBack = inl refl
