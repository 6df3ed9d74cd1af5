-- Records that are due are of the kinds of their journal's layout: in layout 1 no branch was decided heuristically.
use Rattle.std.proofs.Common.{◌≡◌, ℕ, Bool, true, false, List, [], ◌∷◌, cond, refl, sym, ap, ◌∙◌, subst, Option, Some, None, Ordering, Less, Equal, Greater}
use Rattle.std.specs.Prelude.{◌&&◌, bytes_eq}
use Rattle.std.specs.List.{AllByRecursion}
use Rattle.std.specs.Ordering.{match_ordering, nat_cmp}
use Rattle.std.specs.Cmp.Lexicographic.{slice_cmp}
use Rattle.row_values.proofs.ValueLaws.{chained}
use Rattle.tables.specs.Change.{Change}
use Rattle.tables.specs.Tables.{Store}
use Rattle.unit_locks.specs.Claims.{all_added}
use Rattle.half_store.specs.declared.header.Layout.{Layout}
use Rattle.half_store.specs.declared.header.Layout.TheVariants.{One, Two}
use Rattle.xa_calls.specs.declared.request.Request.TheVariants as request
use Rattle.xa_manager.specs.declared.branch.BranchState.TheVariants.{Heuristic}
use Rattle.xa_manager.specs.declared.due.Decision.{Decision}
use Rattle.xa_manager.specs.declared.due.Action.{Action}
use Rattle.xa_manager.specs.declared.due.Action.TheVariants as action
use Rattle.xa_manager.specs.declared.due.Work.{Work as Facts}
use Rattle.xa_manager.specs.Branch.{joined_xid, state_of}
use Rattle.xa_manager.specs.Due.{facts_of}
use Rattle.xa_manager.specs.Laws.{ActionsFit, FitsAction}
use Rattle.core_calls.specs.Call as call
use Rattle.core_calls.specs.Call.{Call}
use Rattle.core_model.specs.Units.{Held, Work, global, local, unit_of}
use Rattle.core_model.specs.Step.{CoreState, due_in, facts, unless_joined}
use Rattle.unit_journal.specs.declared.kind.Kind.{Kind}
use Rattle.unit_journal.specs.Record.{Entry}
use Rattle.unit_records.specs.Due.{action_due, commit_due, record_due}
use Rattle.unit_records.specs.Records.{UnitRecord, committed, decided, forgotten, heuristic, prepared}
use Rattle.unit_records.specs.Together.{owner_in, record_for, records_of}
use Rattle.unit_records.specs.declared.group_call.Asked.{Asked}
use Rattle.unit_records.specs.declared.group_call.Asked.TheVariants.{Commit, Through}
use Rattle.unit_records.specs.declared.group_call.GroupCall.{GroupCall}
use Rattle.unit_records.specs.declared.phase.Phase.TheVariants.{Decide, Prepare}
use Rattle.recovery.specs.Durable.{Doubt, Doubts, Durable, at_checkpoint, doubt_of, ended, have_places, is_claimed, is_free, next, waiting, with_doubt, without_doubt}
use Rattle.recovery.specs.Journal.{Leads}
use Rattle.recovery.specs.Known.{AreKnown, IsKnown, is_of}
use Rattle.recovery.specs.Part.{doubt_at, durable_part, outcome_at}
use Rattle.recovery.specs.StepLaws.{DueAreKnown, GroupsAreKnown}
use Rattle.recovery.proofs.Deciding.{doubted}
use Rattle.recovery.proofs.DueRecords.{made, none_due, the_record}
use Rattle.recovery.proofs.Holding.{ended_is, if_some}

-- ---- no branch was decided heuristically

abbrev IsWaiting : List ℕ × Doubt → Type 0
IsWaiting e = e.1.outcome ≡ None

abbrev AllWait : Doubts → Type 0
AllWait doubts = AllByRecursion IsWaiting doubts

more_waits : (xid : List ℕ) (doubt : Doubt) (e : List ℕ × Doubt) (es rest : Doubts) (o : Ordering) → doubt.outcome ≡ None → IsWaiting e → AllWait es → AllWait rest
    → AllWait (match_ordering o ((xid, doubt) ∷ e ∷ es) ((e.0, doubt) ∷ es) (e ∷ rest))
more_waits xid doubt e es rest Less new here all more = (new, (here, all))
more_waits xid doubt e es rest Equal new here all more = (new, all)
more_waits xid doubt e es rest Greater new here all more = (here, more)

one_more_waits : (doubts : Doubts) (xid : List ℕ) (doubt : Doubt) → doubt.outcome ≡ None → AllWait doubts → AllWait (with_doubt doubts xid doubt)
one_more_waits [] xid doubt new all = (new, tt)
one_more_waits (e ∷ es) xid doubt new all =
    more_waits xid doubt e es (with_doubt es xid doubt) (slice_cmp nat_cmp xid e.0) new all.0 all.1 (one_more_waits es xid doubt new all.1)

fewer_wait : (e : List ℕ × Doubt) (es rest : Doubts) (b : Bool) → IsWaiting e → AllWait es → AllWait rest → AllWait (cond b es (e ∷ rest))
fewer_wait e es rest true here all more = all
fewer_wait e es rest false here all more = (here, more)

others_wait : (doubts : Doubts) (xid : List ℕ) → AllWait doubts → AllWait (without_doubt doubts xid)
others_wait [] xid all = tt
others_wait (e ∷ es) xid all = fewer_wait e es (without_doubt es xid) (bytes_eq xid e.0) all.0 all.1 (others_wait es xid all.1)

found_waits : (b : Bool) (e : List ℕ × Doubt) (o : Option Doubt) (doubt : Doubt) → IsWaiting e → cond b (Some e.1) o ≡ Some doubt → (o ≡ Some doubt → doubt.outcome ≡ None) → doubt.outcome ≡ None
found_waits true e o doubt here is other = let same : e.1 ≡ doubt = cc in ap (λ (d : Doubt). d.outcome) (sym same) ∙ here
found_waits false e o doubt here is other = other is

each_waits : (doubts : Doubts) (xid : List ℕ) (doubt : Doubt) → AllWait doubts → doubt_of doubts xid ≡ Some doubt → doubt.outcome ≡ None
each_waits [] xid doubt all is = absurd cc
each_waits (e ∷ es) xid doubt all is = found_waits (bytes_eq xid e.0) e (doubt_of es xid) doubt all.0 is (λ h. each_waits es xid doubt all.1 h)

-- so it stays over records of layout 1
stay_waiting : (d e : Durable) (r : UnitRecord) → IsKnown One r → next d r ≡ Some e → AllWait d.doubts → AllWait e.doubts
stay_waiting d e (committed changes) known h all =
    let is = if_some (have_places changes d.store) _ e h in
    subst (λ (x : Durable). AllWait x.doubts) is.1 all
stay_waiting d e (prepared xid changes claims) known h all =
    let is = if_some (have_places changes d.store && (is_claimed changes claims && is_free d.doubts xid)) _ e h in
    let work : Work = record { changes = changes; claims = all_added [] claims } in
    subst (λ (x : Durable). AllWait x.doubts) is.1 (one_more_waits d.doubts xid (waiting work) refl all)
stay_waiting d e (decided xid o) known h all =
    let found = chained (ended d xid o) (doubt_of d.doubts xid) e h in
    let is = ended_is d xid o found.0.work found.0.outcome e found.2 in
    subst (λ (x : Durable). AllWait x.doubts) is.1 (others_wait d.doubts xid all)
stay_waiting d e (heuristic xid o) known h all = absurd cc
stay_waiting d e (forgotten xid) known h all = absurd cc

lead_waiting : (d e : Durable) (es : List Entry) → AreKnown One es → Leads d es e → AllWait d.doubts → AllWait e.doubts
lead_waiting d e [] known leads all = subst (λ (x : Durable). AllWait x.doubts) leads all
lead_waiting d e (x ∷ es) known leads all =
    let is_known : IsKnown One leads.1.said = subst (λ (k : Kind). is_of One k ≡ true) leads.1.is.same_kind known.0 in
    lead_waiting leads.0 e es known.1 leads.2 (stay_waiting d leads.0 leads.1.said is_known leads.1.step all)

-- ---- what is due

-- a record of a kind that every layout has
known_commit : (layout : Layout) (changes : List Change) → IsKnown layout (committed changes)
known_commit One changes = refl
known_commit Two changes = refl

known_prepare : (layout : Layout) (xid : List ℕ) (w : Work) → IsKnown layout (prepared xid w.changes w.claims)
known_prepare One xid w = refl
known_prepare Two xid w = refl

known_decide : (layout : Layout) (xid : List ℕ) (o : Decision) → IsKnown layout (decided xid o)
known_decide One xid o = refl
known_decide Two xid o = refl

due_of_commit : (layout : Layout) (xs : List Change) (r : UnitRecord) → commit_due xs ≡ Some r → IsKnown layout r
due_of_commit layout xs r h = subst (IsKnown layout) (made xs r h) (known_commit layout xs)

-- a branch is forgotten that was decided heuristically, so in layout 1 none is
none_forgotten : (s : CoreState) (x : List ℕ) (d : Decision) → AllWait (durable_part s).doubts → state_of s.branches x ≡ Some (Heuristic d) → IsKnown One (forgotten x)
none_forgotten s x d all known =
    let f = doubt_at s.branches s.base.units in
    let outcome : (f x).outcome ≡ Some d = ap outcome_at known in
    let none : (f x).outcome ≡ None = each_waits (durable_part s).doubts x (f x) all (doubted f s.branches x (Heuristic d) known refl) in
    absurd (let both : None ≡ Some d = sym none ∙ outcome in cc)

forgetting_known : (layout : Layout) (s : CoreState) (x : List ℕ) (d : Decision) → (layout ≡ One → AllWait (durable_part s).doubts) → state_of s.branches x ≡ Some (Heuristic d) → IsKnown layout (forgotten x)
forgetting_known One s x d all known = none_forgotten s x d (all refl) known
forgetting_known Two s x d all known = refl

module _ (layout : Layout) (s : CoreState) (all : layout ≡ One → AllWait (durable_part s).doubts) where
  action_known : (x : List ℕ) (w : Work) (c : ℕ) (f : Facts) (r : UnitRecord) (a : Action) → FitsAction a (state_of s.branches x) (facts_of s.branches c f) → action_due x w a ≡ Some r → IsKnown layout r
  action_known x w c f r action.Nothing fit h = none_due r None refl h
  action_known x w c f r action.Start fit h = none_due r None refl h
  action_known x w c f r action.Join fit h = none_due r None refl h
  action_known x w c f r (action.End e) fit h = none_due r None refl h
  action_known x w c f r action.EndUnchanged fit h = due_of_commit layout w.changes r h
  action_known x w c f r action.Prepare fit h = subst (IsKnown layout) (the_record (prepared x w.changes w.claims) r (Some (prepared x w.changes w.claims)) refl h) (known_prepare layout x w)
  action_known x w c f r action.CommitOnePhase fit h = due_of_commit layout w.changes r h
  action_known x w c f r (action.Decide o) fit h = subst (IsKnown layout) (the_record (decided x o) r (Some (decided x o)) refl h) (known_decide layout x o)
  action_known x w c f r action.RollBack fit h = none_due r None refl h
  action_known x w c f r action.Forget fit h = subst (IsKnown layout) (the_record (forgotten x) r (Some (forgotten x)) refl h) (forgetting_known layout s x fit.0 all fit.1)

  local_known : (c : ℕ) (j : Option (List ℕ)) (r : UnitRecord) → unless_joined j (commit_due (unit_of (local c) s.base.units).changes) None ≡ Some r → IsKnown layout r
  local_known c None r h = due_of_commit layout (unit_of (local c) s.base.units).changes r h
  local_known c (Some x) r h = none_due r None refl h

  call_known : ActionsFit → (c : ℕ) (k : Call) (r : UnitRecord) → record_due s c k ≡ Some r → IsKnown layout r
  call_known fits c (call.run st params) r h = none_due r None refl h
  call_known fits c (call.query st params) r h = none_due r None refl h
  call_known fits c (call.describe st d) r h = none_due r None refl h
  call_known fits c call.commit r h = local_known c (joined_xid s.branches c) r h
  call_known fits c call.roll_back r h = none_due r None refl h
  call_known fits c (call.xa None) r h = none_due r None refl h
  call_known fits c (call.xa (Some request.Recover)) r h = none_due r None refl h
  call_known fits c (call.xa (Some (request.Branch verb x))) r h =
      action_known x (unit_of (global x) s.base.units) c (facts s.base c x) r (due_in s.branches s.base c verb x).action (fits s.branches c verb x (facts s.base c x)) h
  call_known fits c call.lost r h = none_due r None refl h

waiting_in : (layout : Layout) (store : Store) (es : List Entry) (d : Durable) → AreKnown layout es → Leads (at_checkpoint store) es d → layout ≡ One → AllWait d.doubts
waiting_in layout store es d known leads is = lead_waiting (at_checkpoint store) d es (subst (λ (l : Layout). AreKnown l es) is known) leads tt

pub due_are_known : ActionsFit → DueAreKnown
due_are_known fits layout store es s c k r known leads kept h = call_known layout s (waiting_in layout store es (durable_part s) known leads) fits c k r h

-- ---- calls that are made together

asked_known : (layout : Layout) (a : Asked) (w : Work) → IsKnown layout (record_for a w)
asked_known layout Commit w = known_commit layout w.changes
asked_known layout (Through Prepare x) w = known_prepare layout x w
asked_known layout (Through (Decide d) x) w = known_decide layout x d

all_known : (layout : Layout) (units : List Held) (cs : List GroupCall) → AllByRecursion (IsKnown layout) (records_of units cs)
all_known layout units [] = tt
all_known layout units (c ∷ cs) = (asked_known layout c.asked (unit_of (owner_in c) units), all_known layout units cs)

pub groups_are_known : GroupsAreKnown
groups_are_known layout s cs = all_known layout s.base.units cs
