-- Histories of calls are in serial order: no call asks anything of a unit in doubt, as long as the
-- branches rise, and every call keeps that.
use Rattle.std.proofs.Common.{◌≡◌, inl, inr, ⊎_elim, ℕ, Bool, true, false, not, List, [], ◌∷◌, ◌++◌, refl, sym, ap, subst, ◌∙◌, Option, Some, None}
use Rattle.std.specs.Prelude.{bytes_eq, if◌then◌else◌}
use Rattle.drda_words.specs.Order.{IsRising}
use Rattle.drda_words.proofs.Precedes.{same_bytes}
use Rattle.tables.specs.Tables.{Store}
use Rattle.tables.specs.View.{is_store}
use Rattle.xa_calls.specs.declared.request.Request.TheVariants as request
use Rattle.xa_manager.specs.declared.branch.Branch.{Branch}
use Rattle.xa_manager.specs.declared.branch.BranchState.{BranchState}
use Rattle.xa_manager.specs.declared.branch.BranchState.TheVariants.{Active, Heuristic, Idle, RollbackOnly, Prepared}
use Rattle.xa_manager.specs.declared.due.Action.{Action}
use Rattle.xa_manager.specs.declared.due.Action.TheVariants as action
use Rattle.xa_manager.specs.declared.due.Decision.{Decision}
use Rattle.xa_manager.specs.declared.due.Decision.TheVariants as decision
use Rattle.xa_manager.specs.declared.due.Facts.{Facts}
use Rattle.xa_manager.specs.Branch.{is_undecided, is_lost_with, state_of, with_state}
use Rattle.xa_manager.specs.Due.{after}
use Rattle.xa_manager.specs.Laws.{ActionsFit, FitsAction}
use Rattle.xa_manager.proofs.AllCalls.{other_with_state}
use Rattle.xa_manager.proofs.Rising.{rises, rises_branch, rises_filter, rises_state, rising}
use Rattle.core_calls.specs.Call as call
use Rattle.core_calls.specs.Call.{Call}
use Rattle.core_calls.specs.declared.sql_fault.SqlFault.{SqlFault}
use Rattle.core_model.specs.Units.{Held, Owner, global, has_work, local, unit_of}
use Rattle.core_model.specs.Asked.{Question, unfit}
use Rattle.core_model.specs.Events as core
use Rattle.core_model.specs.Events.{Base as CoreBase, Event as CoreEvent}
use Rattle.core_model.specs.Step.{CoreState, Kept, MarkedCall, Mark, Taken, action_events, decided_state, events, facts, due_in, next, replay, step_by, step_state}
use Rattle.core_model.specs.Laws as laws
use Rattle.core_model.specs.Laws.{AsksNone, InDoubtWait, IsPrepared}
use Rattle.serializability.specs.Words.{Laws}
use Rattle.serializability.specs.Events.{Event, start}
use Rattle.serializability.specs.Serial.{AllLie, Serially}
use Rattle.serializability.specs.Steps.{AsksOf, Ends}
use Rattle.serializability.proofs.Bare.{all_begun, events_hold, forget_run, found_run}
use Rattle.serializability.proofs.Running.{Holds, at_start, both, which}
use Rattle.serializability.specs.CoreWords.{core_units, core_words, events_of, question_events}
use Rattle.serializability.specs.Histories.{DecidedHistoriesAreSerial, Happening, HistoriesAreSerial, Story, all_happened, base_of, calls, core_of, decides, happened, is_prepared, story, told, told_by, told_decided, told_of, waits, whole_story}
use Rattle.serializability.proofs.CoreUnits.{core_kept, events_are_theirs}

-- ---- the branches rise

rising_after : (bs : List Branch) (c : ℕ) (xid : List ℕ) (a : Action) (f : Facts) → FitsAction a (state_of bs xid) f → IsRising (λ (b : Branch). b.xid) bs → IsRising (λ (b : Branch). b.xid) (after bs c xid a)
rising_after bs c xid action.Nothing f fit h = h
rising_after bs c xid action.Start f fit h = rising _ (rises_branch bs (record { xid = xid; state = Active c }) fit.0 (rises bs h))
rising_after bs c xid action.Join f fit h = rising _ (rises_state xid _ bs (rises bs h))
rising_after bs c xid (action.End e) f fit h = rising _ (rises_state xid _ bs (rises bs h))
rising_after bs c xid action.Prepare f fit h = rising _ (rises_state xid _ bs (rises bs h))
rising_after bs c xid action.EndUnchanged f fit h = rising _ (rises_filter _ bs (rises bs h))
rising_after bs c xid action.CommitOnePhase f fit h = rising _ (rises_filter _ bs (rises bs h))
rising_after bs c xid (action.Decide o) f fit h = rising _ (rises_filter _ bs (rises bs h))
rising_after bs c xid action.RollBack f fit h = rising _ (rises_filter _ bs (rises bs h))
rising_after bs c xid action.Forget f fit h = rising _ (rises_filter _ bs (rises bs h))

rising_next : ActionsFit → (bs : List Branch) (b : CoreBase) (c : ℕ) (k : Call) → IsRising (λ (r : Branch). r.xid) bs → IsRising (λ (r : Branch). r.xid) (next bs b c k)
rising_next fits bs b c (call.run st params) h = h
rising_next fits bs b c (call.query st params) h = h
rising_next fits bs b c (call.describe st d) h = h
rising_next fits bs b c call.commit h = h
rising_next fits bs b c call.roll_back h = h
rising_next fits bs b c (call.xa None) h = h
rising_next fits bs b c (call.xa (Some request.Recover)) h = h
rising_next fits bs b c (call.xa (Some (request.Branch verb xid))) h = rising_after bs c xid (due_in bs b c verb xid).action _ (fits bs c verb xid (facts b c xid)) h
rising_next fits bs b c call.lost h = rising _ (rises_filter (λ (r : Branch). not (is_lost_with c r.state)) bs (rises bs h))

-- ---- units in doubt

is_it : (s : BranchState) → is_undecided s ≡ true → s ≡ Prepared
is_it (Active c) h = both false h refl
is_it (Idle c) h = both false h refl
is_it (RollbackOnly c) h = both false h refl
is_it Prepared h = refl
is_it (Heuristic d) h = both false h refl

state_is : (o : Option BranchState) → waits o ≡ true → o ≡ Some Prepared
state_is None h = both false h refl
state_is (Some s) h = ap (λ (t : BranchState). Some t) (is_it s h)

prepared_is : (bs : List Branch) (o : Owner) → is_prepared bs o ≡ true → (xid : List ℕ) × (IsPrepared bs xid) × (o ≡ global xid)
prepared_is bs (local c) h = both false h refl
prepared_is bs (global xid) h = (xid, state_is (state_of bs xid) h, refl)

pub prepared_so : (bs : List Branch) (xid : List ℕ) → IsPrepared bs xid → is_prepared bs (global xid) ≡ true
prepared_so bs xid h = ap waits h

pub not_prepared : (bs : List Branch) (o : Owner) → ((xid : List ℕ) → IsPrepared bs xid → o ≡ global xid → ⊥) → is_prepared bs o ≡ false
not_prepared bs o none = ⊎_elim (λ so. let p = prepared_is bs o so in absurd (none p.0 p.1 p.2)) (λ ne. ne) (which (is_prepared bs o))

asks_question : (bs : List Branch) (f : Option SqlFault) (o : Owner) (q : Question) (rest : List (Event core_words core_units)) → is_prepared bs o ≡ false
    → AsksOf core_words core_units (is_prepared bs) rest → AsksOf core_words core_units (is_prepared bs) (question_events f o q ++ rest)
asks_question bs (Some f) o q rest ne h = h
asks_question bs None o q rest ne h = (ne, h)

asks_of : (bs : List Branch) (es : List CoreEvent) → AsksNone (IsPrepared bs) es → AsksOf core_words core_units (is_prepared bs) (events_of es)
asks_of bs [] h = tt
asks_of bs (core.Ask o q ∷ es) h = asks_question bs (unfit q) o q (events_of es) (not_prepared bs o h.0) (asks_of bs es h.1)
asks_of bs (core.Commit o ∷ es) h = asks_of bs es h
asks_of bs (core.Leave o ∷ es) h = asks_of bs es h

ends_question : (f : Option SqlFault) (p : Owner) (q : Question) (o : Owner) (rest : List (Event core_words core_units)) → Ends core_words core_units o rest → Ends core_words core_units o (question_events f p q ++ rest)
ends_question (Some f) p q o rest e = e
ends_question None p q o rest e = e

ends_of : (o : Owner) (es : List CoreEvent) → laws.Ends o es → Ends core_words core_units o (events_of es)
ends_of o [] e = e
ends_of o (core.Ask p q ∷ es) e = ends_question (unfit q) p q o (events_of es) (ends_of o es e)
ends_of o (core.Commit p ∷ es) e = ⊎_elim (λ same. inl same) (λ more. inr (ends_of o es more)) e
ends_of o (core.Leave p ∷ es) e = ⊎_elim (λ same. inl same) (λ more. inr (ends_of o es more)) e

-- ---- a heuristic decision

abbrev decision_events : List ℕ → Decision → List CoreEvent
decision_events xid d = action_events xid (action.Decide d)

no_asks : (bs : List Branch) (xid : List ℕ) (d : Decision) → AsksOf core_words core_units (is_prepared bs) (events_of (decision_events xid d))
no_asks bs xid decision.Commit = tt
no_asks bs xid decision.RollBack = tt

ends_here : (xid : List ℕ) (d : Decision) → Ends core_words core_units (global xid) (events_of (decision_events xid d))
ends_here xid decision.Commit = inl refl
ends_here xid decision.RollBack = inl refl

-- another prepared branch waits on
stays_undecided : (bs : List Branch) (xid : List ℕ) (d : Decision) (o : Owner) → is_prepared bs o ≡ true → (o ≡ global xid → ⊥) → is_prepared (with_state bs xid (Heuristic d)) o ≡ true
stays_undecided bs xid d (local c) so none = both false so refl
stays_undecided bs xid d (global y) so none =
    ⊎_elim
    (λ same. absurd (none (ap global (sym (same_bytes xid y same)))))
    (λ ne. ap waits (other_with_state bs xid (Heuristic d) y ne) ∙ so)
    (which (bytes_eq xid y))

-- ---- the story

module _ (l : Laws core_words) (wait : InDoubtWait) (fits : ActionsFit) where
  pub record Fine (first : Store) (s : Story) : Type 0 where
    pub holds : Holds core_words l core_units core_kept first s.world
    pub in_doubt : (o : Owner) → s.world.found o ≡ true → is_prepared s.branches o ≡ true
    pub rises : IsRising (λ (b : Branch). b.xid) s.branches

  one : (first : Store) (s : Story) (c : ℕ) (k : Call) → Fine first s → core_of (told s c k) ≡ step_state (core_of s) c k
  one first s c k f =
      let b = base_of s.world in
      let es = events s.branches b c k in
      let begun = all_begun core_words core_units core_kept s.world (events_of es) (is_prepared s.branches) f.in_doubt (asks_of s.branches es ((wait s.branches b c k).asks f.rises)) in
      let same = forget_run core_words core_units core_kept s.world (events_of es) begun ∙ sym (events_are_theirs es b) in
      λ i. record { base = record { store = (same i).store; units = (same i).units }; branches = next s.branches b c k }

  stays : (s : Story) (c : ℕ) (k : Call) (o : Owner) → is_prepared s.branches o ≡ true → (laws.Ends o (events s.branches (base_of s.world) c k) → ⊥) → is_prepared (next s.branches (base_of s.world) c k) o ≡ true
  stays s c k o so none =
      let p = prepared_is s.branches o so in
      let there = ⊎_elim (λ still. prepared_so (next s.branches (base_of s.world) c k) p.0 still) (λ ends. absurd (none (subst (λ (n : Owner). laws.Ends n (events s.branches (base_of s.world) c k)) (sym p.2) ends))) ((wait s.branches (base_of s.world) c k).stays p.0 p.1) in
      subst (λ (n : Owner). is_prepared (next s.branches (base_of s.world) c k) n ≡ true) (sym p.2) there

  fine : (first : Store) (s : Story) (c : ℕ) (k : Call) → Fine first s → Fine first (told s c k)
  fine first s c k f =
      let b = base_of s.world in
      let es = events s.branches b c k in record {
        holds = events_hold core_words l core_units core_kept first (events_of es) s.world f.holds;
        in_doubt = λ o is.
            let r = found_run core_words core_units core_kept s.world (events_of es) o is in
            stays s c k o (f.in_doubt o r.0) (λ e. r.1 (ends_of o es e));
        rises = rising_next fits s.branches b c k f.rises;
      }

  pub fine_by : (first : Store) (m : Mark) (s : Story) (c : ℕ) (k : Call) → Fine first s → Fine first (told_by m s c k) × (core_of (told_by m s c k) ≡ step_by m (core_of s) c k)
  fine_by first Taken s c k f = (fine first s c k f, one first s c k f)
  fine_by first Kept s c k f = (f, refl)

  all_told : (first : Store) (ls : List MarkedCall) (s : Story) → Fine first s → Fine first (story ls s) × (core_of (story ls s) ≡ replay ls (core_of s))
  all_told first [] s f = (f, refl)
  all_told first (x ∷ ls) s f =
      let here = fine_by first x.mark s x.conversation x.call f in
      let rest = all_told first ls (told_by x.mark s x.conversation x.call) here.0 in
      (rest.0, rest.1 ∙ ap (λ (t : CoreState). replay ls t) here.1)

  pub fine_start : (s : Store) (units : List Held) (branches : List Branch) → is_store s ≡ true → AllLie core_words core_units s units → IsRising (λ (b : Branch). b.xid) branches
      → ((o : Owner) → has_work (unit_of o units) ≡ true → is_prepared branches o ≡ true) → Fine s (record { branches = branches; world = start core_words core_units s units })
  fine_start s units branches good lie up in_doubt = record { holds = at_start core_words l core_units core_kept s units good lie; in_doubt = in_doubt; rises = up }

  pub histories_are_serial : HistoriesAreSerial
  histories_are_serial s units branches history good lie up in_doubt =
      let first : Story = record { branches = branches; world = start core_words core_units s units } in
      let r = all_told s history first (fine_start s units branches good lie up in_doubt) in
      let end = story history first in
      (subst (λ (t : Store). Serially core_words s end.world.ended t) (ap (λ (c : CoreState). c.base.store) r.1) r.0.holds.serial, r.1)

  -- ---- heuristic decisions between calls

  one_decided : (first : Store) (s : Story) (xid : List ℕ) (d : Decision) → Fine first s → core_of (told_decided s xid d) ≡ decided_state (core_of s) xid d
  one_decided first s xid d f =
      let b = base_of s.world in
      let es = decision_events xid d in
      let begun = all_begun core_words core_units core_kept s.world (events_of es) (is_prepared s.branches) f.in_doubt (no_asks s.branches xid d) in
      let same = forget_run core_words core_units core_kept s.world (events_of es) begun ∙ sym (events_are_theirs es b) in
      λ i. record { base = record { store = (same i).store; units = (same i).units }; branches = with_state s.branches xid (Heuristic d) }

  fine_decided : (first : Store) (s : Story) (xid : List ℕ) (d : Decision) → Fine first s → Fine first (told_decided s xid d)
  fine_decided first s xid d f =
      let es = decision_events xid d in record {
        holds = events_hold core_words l core_units core_kept first (events_of es) s.world f.holds;
        in_doubt = λ o is.
            let r = found_run core_words core_units core_kept s.world (events_of es) o is in
            stays_undecided s.branches xid d o (f.in_doubt o r.0) (λ same. r.1 (subst (λ (p : Owner). Ends core_words core_units p (events_of es)) (sym same) (ends_here xid d)));
        rises = rising _ (rises_state xid _ s.branches (rises s.branches f.rises));
      }

  fine_if : (first : Store) (s : Story) (xid : List ℕ) (d : Decision) (b : Bool) → Fine first s
      → Fine first (if b then told_decided s xid d else s) × (core_of (if b then told_decided s xid d else s) ≡ (if b then decided_state (core_of s) xid d else core_of s))
  fine_if first s xid d true f = (fine_decided first s xid d f, one_decided first s xid d f)
  fine_if first s xid d false f = (f, refl)

  fine_of : (first : Store) (h : Happening) (s : Story) → Fine first s → Fine first (told_of h s) × (core_of (told_of h s) ≡ happened h (core_of s))
  fine_of first (calls x) s f = fine_by first x.mark s x.conversation x.call f
  fine_of first (decides xid d) s f = fine_if first s xid d (is_prepared s.branches (global xid)) f

  whole_told : (first : Store) (hs : List Happening) (s : Story) → Fine first s → Fine first (whole_story hs s) × (core_of (whole_story hs s) ≡ all_happened hs (core_of s))
  whole_told first [] s f = (f, refl)
  whole_told first (h ∷ hs) s f =
      let here = fine_of first h s f in
      let rest = whole_told first hs (told_of h s) here.0 in
      (rest.0, rest.1 ∙ ap (λ (t : CoreState). all_happened hs t) here.1)

  pub decided_histories_are_serial : DecidedHistoriesAreSerial
  decided_histories_are_serial s units branches history good lie up in_doubt =
      let first : Story = record { branches = branches; world = start core_words core_units s units } in
      let r = whole_told s history first (fine_start s units branches good lie up in_doubt) in
      let end = whole_story history first in
      (subst (λ (t : Store). Serially core_words s end.world.ended t) (ap (λ (c : CoreState). c.base.store) r.1) r.0.holds.serial, r.1)
