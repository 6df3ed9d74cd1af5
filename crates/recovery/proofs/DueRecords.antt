-- A record that is due has its place, and leads to what is durable after the step.
use Rattle.std.proofs.Common.{◌≡◌, ◌<◌, ◌≤◌, ℕ, Bool, true, false, not, List, [], ◌∷◌, length, map, Option, Some, None, refl, sym, ◌∙◌, ap, subst, arith}
use Rattle.std.specs.Prelude.{◌&&◌, bytes_eq, if◌then◌else◌, is_some, nat_lt, unwrap_or}
use Rattle.std.specs.Option.{option_and_then}
use Rattle.std.proofs.lemmas.Bool.{lt-ltb}
use Rattle.std.proofs.lemmas.List.{length-map}
use Rattle.row_values.proofs.ValueLaws.{both_true}
use Rattle.tables.specs.Change.{Change}
use Rattle.unit_locks.specs.Claim.{Claim}
use Rattle.unit_locks.specs.Claims.{all_added}
use Rattle.xa_calls.specs.declared.request.Request.TheVariants as request
use Rattle.xa_manager.specs.declared.branch.Branch.{Branch}
use Rattle.half_store.specs.declared.header.Layout.{Layout}
use Rattle.half_store.specs.declared.header.Layout.TheVariants.{Two}
use Rattle.xa_manager.specs.declared.branch.BranchState.{BranchState}
use Rattle.xa_manager.specs.declared.branch.BranchState.TheVariants.{Heuristic, Idle, Prepared}
use Rattle.xa_manager.specs.declared.due.Decision.{Decision}
use Rattle.xa_manager.specs.declared.due.Action.{Action}
use Rattle.xa_manager.specs.declared.due.Action.TheVariants as action
use Rattle.xa_manager.specs.declared.due.Decision.TheVariants as decision
use Rattle.xa_manager.specs.declared.due.Work.{Work as Facts}
use Rattle.xa_manager.specs.Branch.{in_doubt_count, in_doubt_xids, is_in_doubt, joined_xid, state_of, with_state, without}
use Rattle.xa_manager.specs.Due.{after, facts_of}
use Rattle.xa_manager.specs.Laws.{ActionsFit, FitsAction}
use Rattle.xa_manager.proofs.AllCalls.{other_with_state, other_without, same_with_state}
use Rattle.xa_manager.proofs.Rising.{Rises, rises, rises_filter}
use Rattle.core_calls.specs.Call as call
use Rattle.core_calls.specs.Call.{Call}
use Rattle.core_model.specs.Units.{Held, Owner, Work, apply_all, global, local, unit_of}
use Rattle.core_model.specs.Units as units
use Rattle.core_model.specs.Events.{Base, Commit, Leave, bare, bare_run}
use Rattle.core_model.specs.Step.{CoreState, action_events, decided_state, due_in, facts, step_state, unless_joined}
use Rattle.core_model.proofs.Owners.{unit_of_gone, unit_of_without}
use Rattle.unit_records.specs.Records.{UnitRecord, committed, decided, forgotten, heuristic, prepared}
use Rattle.unit_records.specs.Room.{released}
use Rattle.recovery.specs.Durable.{Doubt, Doubts, Durable, completed, decide, decided_so, doubt_of, ended, have_places, is_claimed, is_free, let_go, next, turned, waiting, with_doubt, without_doubt}
use Rattle.recovery.specs.Known.{Releases}
use Rattle.recovery.specs.Laws.{HeldForDoubts, held_for}
use Rattle.unit_records.specs.Due.{action_due, commit_due, record_due}
use Rattle.recovery.specs.Kept.{IsKept, is_in_doubt_in, waits}
use Rattle.recovery.specs.StepLaws.{DecisionsAreOfDoubts, DecisionsLead, HeuristicsAreOfDoubts, RecordsLead}
use Rattle.recovery.specs.Part.{doubt_at, doubts_in, durable_part, outcome_at}
use Rattle.recovery.proofs.Deciding.{doubted, eq_turned, not_doubted, pairs_decided, pairs_entered, pairs_replaced}
use Rattle.recovery.proofs.Doubts.{pairs, states_agree, xids_count, xids_turned}
use Rattle.recovery.proofs.Silent.{StandSame, out_agree, out_before, out_without, part_committed, rise_without, same_part, same_without, stand_without, sure_apart, sure_apart_left}

abbrev pub some : Durable → Option Durable
some d = Some d

pub none_due : {X : Type 0} (r : UnitRecord) (o : Option UnitRecord) → o ≡ None → o ≡ Some r → X
none_due r o none h = absurd (let e : is_some o ≡ false = ap is_some none in let g : is_some o ≡ true = ap is_some h in let f : true ≡ false = sym g ∙ e in cc)

pub the_record : (q r : UnitRecord) (o : Option UnitRecord) → o ≡ Some q → o ≡ Some r → q ≡ r
the_record q r o e h = ap (λ (p : Option UnitRecord). unwrap_or p r) (sym e ∙ h)

-- ---- commits

pub made : (xs : List Change) (r : UnitRecord) → commit_due xs ≡ Some r → committed xs ≡ r
made [] r h = none_due r None refl h
made (x ∷ xs) r h = ap (λ (o : Option UnitRecord). unwrap_or o r) h

pub placed : (d : Durable) (xs : List Change) → have_places xs d.store ≡ true → next d (committed xs) ≡ Some (record { store = apply_all xs d.store; doubts = d.doubts })
placed d xs h = ap (λ t. if t then some (record { store = apply_all xs d.store; doubts = d.doubts }) else None) h

commit_leads : (s : CoreState) (cs : List Branch) (o : Owner) (r : UnitRecord) → Rises cs → in_doubt_xids cs ≡ in_doubt_xids s.branches → StandSame cs s.branches → is_in_doubt_in cs o ≡ false → is_in_doubt_in s.branches o ≡ false → IsKept s
    → commit_due (unit_of o s.base.units).changes ≡ Some r → next (durable_part s) r ≡ Some (durable_part (record { base = bare s.base (Commit o); branches = cs }))
commit_leads s cs o r rise same stand out before kept h =
    let xs = (unit_of o s.base.units).changes in
    subst (λ (q : UnitRecord). next (durable_part s) q ≡ Some (durable_part (record { base = bare s.base (Commit o); branches = cs }))) (made xs r h)
    (placed (durable_part s) xs (kept.places o before) ∙ ap some (sym (part_committed s.branches cs s.base o (rises s.branches kept.table.rising) rise same stand out)))

local_leads : (s : CoreState) (c : ℕ) (r : UnitRecord) (j : Option (List ℕ)) → IsKept s → unless_joined j (commit_due (unit_of (local c) s.base.units).changes) None ≡ Some r
    → next (durable_part s) r ≡ Some (durable_part (record { base = bare_run (unless_joined j (Commit (local c) ∷ []) []) s.base; branches = s.branches }))
local_leads s c r None kept h = commit_leads s s.branches (local c) r (rises s.branches kept.table.rising) refl (λ x d. refl) refl refl kept h
local_leads s c r (Some x) kept h = none_due r None refl h

-- ---- prepares and decisions

module _ (s : CoreState) (x : List ℕ) (kept : IsKept s) where
  abbrev u : Work
  u = unit_of (global x) s.base.units

  abbrev ds : Doubts
  ds = doubts_in s.branches s.base.units

  abbrev rise : Rises s.branches
  rise = rises s.branches kept.table.rising

  idle_leads : (last : ℕ) (r : UnitRecord) → state_of s.branches x ≡ Some (Idle last) → commit_due u.changes ≡ Some r
      → next (durable_part s) r ≡ Some (durable_part (record { base = bare s.base (Commit (global x)); branches = without s.branches x }))
  idle_leads last r known h =
      commit_leads s (without s.branches x) (global x) r (rise_without s.branches x (Idle last) rise known refl) (same_without s.branches x (Idle last) rise known refl) (stand_without s.branches x (Idle last) rise known refl) (out_without s.branches x) (out_before s.branches x (Idle last) rise known refl) kept h

  abbrev f : List ℕ → Doubt
  f = doubt_at s.branches s.base.units

  free : (last : ℕ) → state_of s.branches x ≡ Some (Idle last) → in_doubt_count s.branches < 256 → is_free ds x ≡ true
  free last known few =
      let size : length ds ≡ length (in_doubt_xids s.branches) = length-map (in_doubt_xids s.branches) (λ (y : List ℕ). (y, f y)) in
      let count = xids_count s.branches in
      both_true (not (is_some (doubt_of ds x))) (nat_lt (length ds) 256)
      (ap (λ (o : Option Doubt). not (is_some o)) (not_doubted f s.branches x (Idle last) rise known refl))
      (lt-ltb (length ds) 256 (omega (arith, size, count, few)))

  prepare_leads : (last : ℕ) → state_of s.branches x ≡ Some (Idle last) → in_doubt_count s.branches < 256
      → next (durable_part s) (prepared x u.changes u.claims) ≡ Some (durable_part (record { base = s.base; branches = with_state s.branches x Prepared }))
  prepare_leads last known few =
      let cs = with_state s.branches x Prepared in
      let g = doubt_at cs s.base.units in
      let test = both_true (have_places u.changes s.base.store) (is_claimed u.changes u.claims && is_free ds x) (kept.places (global x) (ap waits known))
      (both_true (is_claimed u.changes u.claims) (is_free ds x) (kept.claimed (global x)) (free last known few)) in
      let with_claims : List Claim → Durable = λ cs. record { store = s.base.store; doubts = with_doubt ds x (waiting (record { changes = u.changes; claims = cs })) } in
      let here : waiting u ≡ g x = ap (λ (o : Option BranchState). let e : Doubt = record { work = u; outcome = outcome_at o } in e) (sym (same_with_state s.branches x Prepared (Idle last) known)) in
      let others : ds ≡ pairs g s.branches =
      states_agree s.branches cs s.branches s.base.units rise (λ y d. sym (other_with_state s.branches x Prepared y (sure_apart s.branches x (ap waits known) y d))) in
      ap (λ t. if t then some (with_claims (all_added [] u.claims)) else None) test
      ∙ ap (λ cs. some (with_claims cs)) (kept.once (global x))
      ∙ ap some (same_part _ _ _ _ refl
      (ap (λ (l : Doubts). with_doubt l x (waiting u)) others ∙ ap (with_doubt (pairs g s.branches) x) here ∙ pairs_entered g s.branches x Prepared (Idle last) refl rise known refl))

  -- its branch goes, with what is kept of it
  gone_with : (st : BranchState) (hs : List Held) → state_of s.branches x ≡ Some st → is_in_doubt st ≡ true → hs ≡ units.without (global x) s.base.units → without_doubt ds x ≡ doubts_in (without s.branches x) hs
  gone_with st hs known doubt gone =
      let bs = s.branches in
      let rest : Rises (without bs x) = rises_filter _ bs rise in
      pairs_decided f bs x st rise known doubt
      ∙ states_agree bs (without bs x) (without bs x) s.base.units rest (λ y d. sym (other_without bs x y (sure_apart_left bs x y d)))
      ∙ sym (out_agree (without bs x) s.base.units (global x) rest (out_without bs x)) ∙ ap (doubts_in (without bs x)) (sym gone)

  decided_leads : (o : _) (b : Base) → state_of s.branches x ≡ Some Prepared → b.store ≡ decide o s.base.store u → b.units ≡ units.without (global x) s.base.units
      → next (durable_part s) (decided x o) ≡ Some (durable_part (record { base = b; branches = without s.branches x }))
  decided_leads o b known store gone =
      let found : doubt_of ds x ≡ Some (waiting u) =
      doubted f s.branches x Prepared known refl ∙ ap (λ (t : Option BranchState). let e : Option Doubt = Some (record { work = u; outcome = outcome_at t }) in e) known in
      ap (option_and_then (ended (durable_part s) x o)) found
      ∙ ap some (same_part _ _ _ _ (sym store) (gone_with Prepared b.units known refl gone))

  forgotten_leads : (d : Decision) → state_of s.branches x ≡ Some (Heuristic d) → next (durable_part s) (forgotten x) ≡ Some (durable_part (record { base = s.base; branches = without s.branches x }))
  forgotten_leads d known =
      let found : doubt_of ds x ≡ Some (record { work = u; outcome = Some d }) =
      doubted f s.branches x (Heuristic d) known refl ∙ ap (λ (t : Option BranchState). let e : Option Doubt = Some (record { work = u; outcome = outcome_at t }) in e) known in
      let rest : Rises (without s.branches x) = rises_filter _ s.branches rise in
      ap (option_and_then (let_go (durable_part s) x)) found
      ∙ ap some (same_part _ _ _ _ refl (gone_with (Heuristic d) (units.without (global x) s.base.units) known refl refl ∙ out_agree (without s.branches x) s.base.units (global x) rest (out_without s.branches x)))

  pub action_leads : (c : ℕ) (w : Facts) (r : UnitRecord) (a : Action) → FitsAction a (state_of s.branches x) (facts_of s.branches c w) → action_due x u a ≡ Some r
      → next (durable_part s) r ≡ Some (durable_part (record { base = bare_run (action_events x a) s.base; branches = after s.branches c x a }))
  action_leads c w r action.Nothing fit h = none_due r None refl h
  action_leads c w r action.Start fit h = none_due r None refl h
  action_leads c w r action.Join fit h = none_due r None refl h
  action_leads c w r (action.End e) fit h = none_due r None refl h
  action_leads c w r action.Prepare fit h =
      subst (λ (q : UnitRecord). next (durable_part s) q ≡ Some (durable_part (record { base = s.base; branches = with_state s.branches x Prepared })))
      (the_record (prepared x u.changes u.claims) r (Some (prepared x u.changes u.claims)) refl h) (prepare_leads fit.0.0 fit.0.1 fit.1)
  action_leads c w r action.EndUnchanged fit h = idle_leads fit.0 r fit.1 h
  action_leads c w r action.CommitOnePhase fit h = idle_leads fit.0 r fit.1 h
  action_leads c w r (action.Decide decision.Commit) fit h =
      subst (λ (q : UnitRecord). next (durable_part s) q ≡ Some (durable_part (record { base = bare s.base (Commit (global x)); branches = without s.branches x })))
      (the_record (decided x decision.Commit) r (Some (decided x decision.Commit)) refl h) (decided_leads decision.Commit (bare s.base (Commit (global x))) fit refl refl)
  action_leads c w r (action.Decide decision.RollBack) fit h =
      subst (λ (q : UnitRecord). next (durable_part s) q ≡ Some (durable_part (record { base = bare s.base (Leave (global x)); branches = without s.branches x })))
      (the_record (decided x decision.RollBack) r (Some (decided x decision.RollBack)) refl h) (decided_leads decision.RollBack (bare s.base (Leave (global x))) fit refl refl)
  action_leads c w r action.RollBack fit h = none_due r None refl h
  action_leads c w r action.Forget fit h =
      subst (λ (q : UnitRecord). next (durable_part s) q ≡ Some (durable_part (record { base = s.base; branches = without s.branches x })))
      (the_record (forgotten x) r (Some (forgotten x)) refl h) (forgotten_leads fit.0 fit.1)

  -- ---- a heuristic decision

  pub decision_leads : (d : Decision) → state_of s.branches x ≡ Some Prepared → next (durable_part s) (heuristic x d) ≡ Some (durable_part (decided_state s x d))
  decision_leads d known =
      let bs = s.branches in
      let cs = with_state bs x (Heuristic d) in
      let hs = units.without (global x) s.base.units in
      let g = doubt_at cs hs in
      let found : doubt_of ds x ≡ Some (waiting u) =
      doubted f bs x Prepared known refl ∙ ap (λ (t : Option BranchState). let e : Option Doubt = Some (record { work = u; outcome = outcome_at t }) in e) known in
      let here : completed d ≡ g x =
      ap (λ (w : Work). let e : Doubt = record { work = w; outcome = Some d } in e) (sym (unit_of_gone (global x) s.base.units))
      ∙ ap (λ (o : Option BranchState). let e : Doubt = record { work = unit_of (global x) hs; outcome = outcome_at o } in e) (sym (same_with_state bs x (Heuristic d) Prepared known)) in
      let apart_of : (y : List ℕ) → bytes_eq y x ≡ false → f y ≡ g y = λ y n.
      ap (λ (w : Work). let e : Doubt = record { work = w; outcome = outcome_at (state_of bs y) } in e) (sym (unit_of_without (global y) (global x) s.base.units n))
      ∙ ap (λ (o : Option BranchState). let e : Doubt = record { work = unit_of (global y) hs; outcome = outcome_at o } in e) (sym (other_with_state bs x (Heuristic d) y (eq_turned y x n))) in
      let list : turned ds x (completed d) ≡ doubts_in cs hs =
      ap (turned ds x) here ∙ pairs_replaced f g bs x Prepared rise known refl apart_of ∙ ap (map (λ (y : List ℕ). (y, g y))) (sym (xids_turned bs x (Heuristic d) Prepared rise refl known refl)) in
      ap (decided_so (durable_part s) x d) found ∙ ap some (by_decision d list)
    where
      by_decision : (d : Decision) → turned ds x (completed d) ≡ doubts_in (with_state s.branches x (Heuristic d)) (units.without (global x) s.base.units)
          → (let p : Durable = record { store = decide d s.base.store u; doubts = turned ds x (completed d) } in p) ≡ durable_part (decided_state s x d)
      by_decision decision.Commit list = same_part _ _ _ _ refl list
      by_decision decision.RollBack list = same_part _ _ _ _ refl list

  pub found_waiting : state_of s.branches x ≡ Some Prepared → is_some (doubt_of ds x) ≡ true
  found_waiting known = ap is_some (doubted f s.branches x Prepared known refl)

-- ---- the step

pub records_lead : ActionsFit → RecordsLead
records_lead fits s c (call.run st params) r kept h = none_due r None refl h
records_lead fits s c (call.query st params) r kept h = none_due r None refl h
records_lead fits s c (call.describe st d) r kept h = none_due r None refl h
records_lead fits s c call.commit r kept h = local_leads s c r (joined_xid s.branches c) kept h
records_lead fits s c call.roll_back r kept h = none_due r None refl h
records_lead fits s c (call.xa None) r kept h = none_due r None refl h
records_lead fits s c (call.xa (Some request.Recover)) r kept h = none_due r None refl h
records_lead fits s c (call.xa (Some (request.Branch verb x))) r kept h =
    action_leads s x kept c (facts s.base c x) r (due_in s.branches s.base c verb x).action (fits s.branches c verb x (facts s.base c x)) h
records_lead fits s c call.lost r kept h = none_due r None refl h

pub decisions_lead : DecisionsLead
decisions_lead s x d kept known = decision_leads s x kept d known

released_held : HeldForDoubts → (layout : Layout) (d e : Durable) (r : UnitRecord) → Releases layout d r → next d r ≡ Some e → released layout r ≤ held_for layout d.doubts
released_held held layout d e (committed xs) of h = omega arith
released_held held layout d e (prepared x xs cs) of h = omega arith
released_held held layout d e (decided x o) of h = let sum = held layout d e (decided x o) of h in omega (arith, sum)
released_held held layout d e (heuristic x o) of h = let sum = held layout d e (heuristic x o) of h in omega (arith, sum)
released_held held layout d e (forgotten x) of h = let sum = held layout d e (forgotten x) of h in omega (arith, sum)

-- what is due of a call is no heuristic decision
abbrev pub is_other : UnitRecord → Bool
is_other (heuristic x o) = false
is_other _ = true

other_commit : (xs : List Change) (r : UnitRecord) → commit_due xs ≡ Some r → is_other r ≡ true
other_commit [] r h = none_due r None refl h
other_commit (x ∷ xs) r h = subst (λ (q : UnitRecord). is_other q ≡ true) (the_record (committed (x ∷ xs)) r (Some (committed (x ∷ xs))) refl h) refl

other_action : (x : List ℕ) (w : Work) (a : Action) (r : UnitRecord) → action_due x w a ≡ Some r → is_other r ≡ true
other_action x w action.Nothing r h = none_due r None refl h
other_action x w action.Start r h = none_due r None refl h
other_action x w action.Join r h = none_due r None refl h
other_action x w (action.End e) r h = none_due r None refl h
other_action x w action.EndUnchanged r h = other_commit w.changes r h
other_action x w action.Prepare r h = subst (λ (q : UnitRecord). is_other q ≡ true) (the_record (prepared x w.changes w.claims) r (Some (prepared x w.changes w.claims)) refl h) refl
other_action x w action.CommitOnePhase r h = other_commit w.changes r h
other_action x w (action.Decide o) r h = subst (λ (q : UnitRecord). is_other q ≡ true) (the_record (decided x o) r (Some (decided x o)) refl h) refl
other_action x w action.RollBack r h = none_due r None refl h
other_action x w action.Forget r h = subst (λ (q : UnitRecord). is_other q ≡ true) (the_record (forgotten x) r (Some (forgotten x)) refl h) refl

other_local : (s : CoreState) (c : ℕ) (j : Option (List ℕ)) (r : UnitRecord) → unless_joined j (commit_due (unit_of (local c) s.base.units).changes) None ≡ Some r → is_other r ≡ true
other_local s c None r h = other_commit (unit_of (local c) s.base.units).changes r h
other_local s c (Some x) r h = none_due r None refl h

other_due : (s : CoreState) (c : ℕ) (k : Call) (r : UnitRecord) → record_due s c k ≡ Some r → is_other r ≡ true
other_due s c (call.run st params) r h = none_due r None refl h
other_due s c (call.query st params) r h = none_due r None refl h
other_due s c (call.describe st d) r h = none_due r None refl h
other_due s c call.commit r h = other_local s c (joined_xid s.branches c) r h
other_due s c call.roll_back r h = none_due r None refl h
other_due s c (call.xa None) r h = none_due r None refl h
other_due s c (call.xa (Some request.Recover)) r h = none_due r None refl h
other_due s c (call.xa (Some (request.Branch verb x))) r h = other_action x (unit_of (global x) s.base.units) (due_in s.branches s.base c verb x).action r h
other_due s c call.lost r h = none_due r None refl h

pub other_releases : (layout : Layout) (d : Durable) (r : UnitRecord) → is_other r ≡ true → Releases layout d r
other_releases layout d (committed xs) h = tt
other_releases layout d (prepared x xs cs) h = tt
other_releases layout d (decided x o) h = tt
other_releases layout d (heuristic x o) h = absurd cc
other_releases layout d (forgotten x) h = tt

pub decisions_are_of_doubts : HeldForDoubts → ActionsFit → DecisionsAreOfDoubts
decisions_are_of_doubts held fits layout s c k r kept h =
    let of = other_releases layout (durable_part s) r (other_due s c k r h) in
    (released_held held layout (durable_part s) (durable_part (step_state s c k)) r of (records_lead fits s c k r kept h), of)

pub heuristics_are_of_doubts : HeldForDoubts → HeuristicsAreOfDoubts
heuristics_are_of_doubts held s x d kept known =
    let of : Releases Two (durable_part s) (heuristic x d) = (refl, found_waiting s x kept known) in
    (released_held held Two (durable_part s) (durable_part (decided_state s x d)) (heuristic x d) of (decisions_lead s x d kept known), of)
