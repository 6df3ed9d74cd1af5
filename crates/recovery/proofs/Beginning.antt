-- What a store opens to begins a history, over crashes and openings too.
use Rattle.std.proofs.Common.{◌≡◌, ◌⊎◌, ◌≤◌, inl, inr, ⊎_elim, ℕ, zero, suc, Bool, true, false, List, [], ◌∷◌, ◌++◌, length, Option, Some, None, refl, sym, ◌∙◌, ap, subst, map, take}
use Rattle.std.specs.Prelude.{if◌then◌else◌, unwrap_or}
use Rattle.std.specs.List.{AllByRecursion}
use Rattle.std.specs.Option.{option_and_then, option_to_list}
use Rattle.std.proofs.lemmas.Bool.{ltb-false}
use Rattle.tables.specs.Change.{Change, create, is_change, put, remove}
use Rattle.tables.specs.View.{is_sound}
use Rattle.xa_manager.specs.declared.branch.BranchState.{BranchState}
use Rattle.xa_manager.specs.declared.branch.BranchState.TheVariants.{Active, Heuristic, Idle, Prepared, RollbackOnly}
use Rattle.xa_manager.specs.declared.branch.Branch.{Branch}
use Rattle.xa_calls.specs.declared.request.Verb.{Verb}
use Rattle.xa_calls.specs.declared.request.Verb.TheVariants as verb
use Rattle.xa_calls.specs.declared.request.Request.TheVariants as request
use Rattle.xa_manager.specs.declared.due.Action.{Action}
use Rattle.xa_manager.specs.declared.due.Action.TheVariants as action
use Rattle.xa_manager.specs.declared.due.Decision.{Decision}
use Rattle.xa_manager.specs.declared.due.Decision.TheVariants as decision
use Rattle.xa_manager.specs.Branch.{found_state, in_doubt_xids, state_of}
use Rattle.xa_manager.specs.Due.{due_at, facts_of}
use Rattle.xa_manager.proofs.Rising.{Rises, rises}
use Rattle.unit_locks.specs.Claims.{AreDistinct}
use Rattle.core_calls.specs.Call as call
use Rattle.core_calls.specs.Call.{Call}
use Rattle.sql_semantics.specs.Frame as frame
use Rattle.core_model.specs.Units.{Held, Owner, Work, global, has_work, idle, unit_of}
use Rattle.core_model.specs.Events.{bare_run}
use Rattle.core_model.specs.Step.{CoreState, Kept, Mark, Taken, action_events, decided_state, due_in, facts, step_by, step_state}
use Rattle.core_model.specs.Laws.{AreListed, HistoriesAreSane, IsPrepared, IsSane, LiesIn, NewCoresAreSane}
use Rattle.core_model.proofs.Listing.{listed_set}
use Rattle.core_model.proofs.Owners.{both}
use Rattle.serializability.specs.Histories.{Happening, all_happened, calls, decides, happened, is_prepared, waits}
use Rattle.unit_records.specs.Due.{record_due}
use Rattle.unit_records.specs.Laws.{OneReading}
use Rattle.unit_records.specs.Records.{IsChange, IsGood, UnitRecord, entry_of, heuristic, kind_of, record_bytes}
use Rattle.unit_journal.specs.Record.{Entry}
use Rattle.store_check.specs.Checkpoint.{CheckpointsAreStores, half_pages}
use Rattle.recovery.specs.Durable.{Doubt, Doubts, Durable, fresh, next, replayed_from}
use Rattle.recovery.specs.Sound.{IsGoodBranch, IsGoodDoubt, IsSound}
use Rattle.recovery.specs.Sound.{LeadsAreSound}
use Rattle.recovery.specs.Kept.{IsKept}
use Rattle.recovery.specs.Part.{doubt_at, doubt_branches, doubt_units, doubts_in, durable_part, opened}
use Rattle.recovery.specs.StepLaws.{DecisionsKeep, DecisionsLead, OpeningsAreKept, RecordsLead, SilentStepsStay, StepsKeep}
use Rattle.recovery.specs.Openings.{CrashesFindPoints, CrashesLeaveSane, EntriesTell, ImagesAreSound, ImagesBegin, IsPoint, Life, LivesLead, OpeningsBegin, OpeningsStaySane, RecordsGoOn, StoresStaySane, record_by, records_by, records_of}
use Rattle.recovery.proofs.Asking.{set}
use Rattle.recovery.proofs.Doubts.{state_behind, state_here}

-- ---- units in doubt

listed_units : (es : Doubts) → AreListed (doubt_units es)
listed_units [] = tt
listed_units (e ∷ es) = listed_set (global e.0) e.1.work (doubt_units es) (listed_units es)

abbrev InDoubt : Doubts → Owner → Type 0
InDoubt es o = (xid : List ℕ) × (o ≡ global xid) × IsPrepared (doubt_branches es) xid

abbrev first_branch : List ℕ × Doubt → Branch
first_branch e = record { xid = e.0; state = found_state e.1.outcome }

-- a branch with work waits for its decision
waits_with : (xid : List ℕ) (work : Work) (outcome : Option Decision) → IsGoodBranch xid work outcome → has_work work ≡ true → found_state outcome ≡ Prepared
waits_with xid work None good works = refl
waits_with xid work (Some o) good works = both (has_work work) works (ap has_work good.1)

first_prepared : (e : List ℕ × Doubt) (es : Doubts) → IsGoodDoubt e → has_work e.1.work ≡ true → IsPrepared (doubt_branches (e ∷ es)) e.0
first_prepared e es good works = state_here (first_branch e) (doubt_branches es) ∙ ap (λ (s : BranchState). let o : Option BranchState = Some s in o) (waits_with e.0 e.1.work e.1.outcome good works)

in_doubt : (es : Doubts) → AllByRecursion IsGoodDoubt es → Rises (doubt_branches es) → (o : Owner) → has_work (unit_of o (doubt_units es)) ≡ true → InDoubt es o
in_doubt [] all rise o works = both false works refl
in_doubt (e ∷ es) all rise o works =
    set (global e.0) e.1.work (doubt_units es) (λ u. has_work u ≡ true → InDoubt (e ∷ es) o) o
    (λ same w. (e.0, same, first_prepared e es all.0 w))
    (λ n w. let p = in_doubt es all.1 rise.1 o w in (p.0, p.1, state_behind (first_branch e) (doubt_branches es) p.0 Prepared rise.0 p.2))
    works

sound_of : (x : Change) → is_change x ≡ true → is_sound x ≡ true
sound_of (create name schema) h = h
sound_of (put name row) h = refl
sound_of (remove name key) h = refl

all_sound : (xs : List Change) → AllByRecursion IsChange xs → (x : Change) → frame.In x xs → is_sound x ≡ true
all_sound [] good x i = absurd i
all_sound (y ∷ xs) good x (inl same) = subst (λ (z : Change). is_sound z ≡ true) (sym same) (sound_of y good.0)
all_sound (y ∷ xs) good x (inr i) = all_sound xs good.1 x i

pub images_sound : CheckpointsAreStores → LeadsAreSound → ImagesAreSound
images_sound stores lead name d image (layout, region, es, holds) =
    lead holds.checkpoint d es (stores image (half_pages (length image) holds.store) holds.checkpoint holds.pages) holds.leads

module _ (kept : OpeningsAreKept) where
  pub openings_begin : OpeningsBegin
  openings_begin d sound =
      let k = (kept d sound).kept in
      record { listed = listed_units d.doubts; sound = (k.store, λ o. all_sound (unit_of o (doubt_units d.doubts)).changes (k.good o)); rising = k.table.rising; prepared = in_doubt d.doubts sound.good (rises (doubt_branches d.doubts) k.table.rising) }

  pub images_begin : CheckpointsAreStores → LeadsAreSound → ImagesBegin
  images_begin stores lead name d image opens = openings_begin d (images_sound stores lead name d image opens)

-- ---- what is durable of a sane core

-- what holds of the idle unit, and of each unit, holds of each that is opened
each : (P : Work → Type 0) → P idle → (bs : List Branch) (hs : List Held) → ((o : Owner) → P (unit_of o hs)) → (xids : List (List ℕ)) (o : Owner)
    → P (unit_of o (doubt_units (map (λ (x : List ℕ). (x, doubt_at bs hs x)) xids)))
each P none bs hs all [] o = none
each P none bs hs all (x ∷ xs) o =
    set (global x) (unit_of (global x) hs) (doubt_units (map (λ (y : List ℕ). (y, doubt_at bs hs y)) xs)) P o (λ same. all (global x)) (λ n. each P none bs hs all xs o)

pub openings_stay_sane : OpeningsStaySane
openings_stay_sane s sane =
    let hs = s.base.units in
    let xids = in_doubt_xids s.branches in record {
      listed = listed_units (doubts_in s.branches hs);
      sound = (sane.sound.0, each (λ (u : Work). (x : Change) → frame.In x u.changes → is_sound x ≡ true) (λ x i. absurd i) s.branches hs sane.sound.1 xids);
      lie = each (LiesIn s.base.store) (λ x i. absurd i) s.branches hs sane.lie xids;
      few = each (λ (u : Work). (length u.claims ≤ 65535) × AreDistinct u.claims) (ltb-false 65535 0 refl, tt) s.branches hs sane.few xids;
    }

-- ---- records of calls that follow others

joined : (xs ys zs : List UnitRecord) → xs ++ (ys ++ zs) ≡ (xs ++ ys) ++ zs
joined [] ys zs = refl
joined (x ∷ xs) ys zs = ap (λ (rs : List UnitRecord). x ∷ rs) (joined xs ys zs)

pub records_go_on : RecordsGoOn
records_go_on [] more s = refl
records_go_on (h ∷ hs) more s =
    ap (λ (rs : List UnitRecord). records_by h s ++ rs) (records_go_on hs more (happened h s)) ∙ joined (records_by h s) (records_of hs (happened h s)) (records_of more (all_happened hs (happened h s)))

-- ---- what a crash leaves

none_left : (count : ℕ) → (let none : List UnitRecord = [] in take count none ≡ none)
none_left zero = refl
none_left (suc n) = refl

-- the start, and one further on
at_start : (s : CoreState) (history : List Happening) (d : Durable) → IsKept s → d ≡ durable_part s → IsPoint s history d
at_start s history d kept is = record { count = 0; is = is; kept = kept }

further : (s : CoreState) (h : Happening) (hs : List Happening) (d : Durable) → IsPoint (happened h s) hs d → IsPoint s (h ∷ hs) d
further s h hs d p = record { count = suc p.count; is = p.is; kept = p.kept }

-- a heuristic decision ends the unit as the transaction manager's would
abbrev asked_for : Decision → Verb
asked_for decision.Commit = verb.Commit
asked_for decision.RollBack = verb.RollBack

-- a branch that waits for its decision is prepared
waiting : (state : Option BranchState) → waits state ≡ true → state ≡ Some Prepared
waiting None h = both false h refl
waiting (Some Prepared) h = refl
waiting (Some (Active c)) h = both false h refl
waiting (Some (Idle c)) h = both false h refl
waiting (Some (RollbackOnly c)) h = both false h refl
waiting (Some (Heuristic o)) h = both false h refl

module _ (keep : StepsKeep) (silent : SilentStepsStay) (lead : RecordsLead) (decisions_keep : DecisionsKeep) (decisions_lead : DecisionsLead) where
  module _ (hs : List Happening) (d : Durable) (rest : (t : CoreState) (n : ℕ) → IsKept t → replayed_from (durable_part t) (take n (records_of hs t)) ≡ Some d → IsPoint t hs d) where
    -- by the record that leads from one state to another
    by_record : (r : UnitRecord) (s t : CoreState) (count : ℕ) → IsKept t → next (durable_part s) r ≡ Some (durable_part t)
        → replayed_from (durable_part s) (take count (r ∷ records_of hs t)) ≡ Some d → IsPoint t hs d ⊎ (d ≡ durable_part s)
    by_record r s t zero kept leads is = inr (sym (ap (λ (o : Option Durable). unwrap_or o (durable_part s)) is))
    by_record r s t (suc n) kept leads is = inl (rest t n kept (sym (ap (option_and_then (λ (e : Durable). replayed_from e (take n (records_of hs t)))) leads) ∙ is))

    by_due : (s : CoreState) (c : ℕ) (k : Call) (o : Option UnitRecord) (count : ℕ) → IsKept s → record_due s c k ≡ o
        → replayed_from (durable_part s) (take count (option_to_list o ++ records_of hs (step_state s c k))) ≡ Some d → IsPoint (step_state s c k) hs d ⊎ (d ≡ durable_part s)
    by_due s c k None count kept due is =
        inl (rest (step_state s c k) count (keep s c k kept) (ap (λ (e : Durable). replayed_from e (take count (records_of hs (step_state s c k)))) (silent s c k kept due) ∙ is))
    by_due s c k (Some r) count kept due is = by_record r s (step_state s c k) count (keep s c k kept) (lead s c k r kept due) is

    by_mark : (m : Mark) (s : CoreState) (c : ℕ) (k : Call) (count : ℕ) → IsKept s
        → replayed_from (durable_part s) (take count (record_by m s c k ++ records_of hs (step_by m s c k))) ≡ Some d → IsPoint (step_by m s c k) hs d ⊎ (d ≡ durable_part s)
    by_mark Taken s c k count kept is = by_due s c k (record_due s c k) count kept refl is
    by_mark Kept s c k count kept is = inl (rest s count kept is)

    by_decision : (b : Bool) (s : CoreState) (xid : List ℕ) (o : Decision) (count : ℕ) → IsKept s → (b ≡ true → state_of s.branches xid ≡ Some Prepared)
        → replayed_from (durable_part s) (take count ((if b then heuristic xid o ∷ [] else []) ++ records_of hs (if b then decided_state s xid o else s))) ≡ Some d
        → IsPoint (if b then decided_state s xid o else s) hs d ⊎ (d ≡ durable_part s)
    by_decision true s xid o count kept prepared is =
        by_record (heuristic xid o) s (decided_state s xid o) count (decisions_keep s xid o kept (prepared refl)) (decisions_lead s xid o kept (prepared refl)) is
    by_decision false s xid o count kept prepared is = inl (rest s count kept is)

    by_happening : (h : Happening) (s : CoreState) (count : ℕ) → IsKept s
        → replayed_from (durable_part s) (take count (records_by h s ++ records_of hs (happened h s))) ≡ Some d → IsPoint (happened h s) hs d ⊎ (d ≡ durable_part s)
    by_happening (calls l) s count kept is = by_mark l.mark s l.conversation l.call count kept is
    by_happening (decides xid o) s count kept is = by_decision (is_prepared s.branches (global xid)) s xid o count kept (waiting (state_of s.branches xid)) is

  pub crashes_find_points : CrashesFindPoints
  crashes_find_points s [] count d kept is =
      let here : replayed_from (durable_part s) [] ≡ Some d = ap (replayed_from (durable_part s)) (sym (none_left count)) ∙ is in
      at_start s [] d kept (sym (ap (λ (o : Option Durable). unwrap_or o (durable_part s)) here))
  crashes_find_points s (h ∷ hs) count d kept is =
      ⊎_elim (λ p. further s h hs d p) (λ e. at_start s (h ∷ hs) d kept e)
      (by_happening hs d (λ t n good led. crashes_find_points t hs n d good led) h s count kept is)

  module _ (sane : HistoriesAreSane) where
    same_action : (s : CoreState) (xid : List ℕ) (d : Decision) → state_of s.branches xid ≡ Some Prepared → (due_in s.branches s.base 0 (asked_for d) xid).action ≡ action.Decide d
    same_action s xid decision.Commit prepared = ap (λ (o : Option BranchState). (due_at verb.Commit o (facts_of s.branches 0 (facts s.base 0 xid))).action) prepared
    same_action s xid decision.RollBack prepared = ap (λ (o : Option BranchState). (due_at verb.RollBack o (facts_of s.branches 0 (facts s.base 0 xid))).action) prepared

    decided_sane : (s : CoreState) (xid : List ℕ) (d : Decision) → state_of s.branches xid ≡ Some Prepared → IsSane s.base → IsSane (decided_state s xid d).base
    decided_sane s xid d prepared good =
        subst (λ (a : Action). IsSane (bare_run (action_events xid a) s.base)) (same_action s xid d prepared)
        (sane (record { mark = Taken; conversation = 0; call = call.xa (Some (request.Branch (asked_for d) xid)) } ∷ []) s good)

    by_choice : (b : Bool) (s : CoreState) (xid : List ℕ) (d : Decision) → (b ≡ true → state_of s.branches xid ≡ Some Prepared) → IsSane s.base → IsSane (if b then decided_state s xid d else s).base
    by_choice true s xid d prepared good = decided_sane s xid d (prepared refl) good
    by_choice false s xid d prepared good = good

    one_sane : (h : Happening) (s : CoreState) → IsSane s.base → IsSane (happened h s).base
    one_sane (calls l) s good = sane (l ∷ []) s good
    one_sane (decides xid d) s good = by_choice (is_prepared s.branches (global xid)) s xid d (waiting (state_of s.branches xid)) good

    all_sane : (hs : List Happening) (s : CoreState) → IsSane s.base → IsSane (all_happened hs s).base
    all_sane [] s good = good
    all_sane (h ∷ hs) s good = all_sane hs (happened h s) (one_sane h s good)

    pub crashes_leave_sane : CrashesLeaveSane
    crashes_leave_sane s history count d kept good is =
        let p = crashes_find_points s history count d kept is in
        subst (λ (e : Durable). IsSane (opened e).base) (sym p.is) (openings_stay_sane (all_happened (take p.count history) s) (all_sane (take p.count history) s good))

    module _ (opens : OpeningsAreKept) where
      lives_sane : (lives : List Life) (d e : Durable) → IsSound d → IsSane (opened d).base → LivesLead d lives e → IsSane (opened e).base
      lives_sane [] d e sound good lives = subst (λ (f : Durable). IsSane (opened f).base) lives good
      lives_sane (l ∷ ls) d e sound good lives =
          let o = opens d sound in
          let led = ap (λ (f : Durable). replayed_from f (take l.count (records_of l.history (opened d)))) o.part ∙ lives.2 in
          lives_sane ls lives.0 e lives.1 (crashes_leave_sane (opened d) l.history l.count lives.0 o.kept good led) lives.3

      pub stores_stay_sane : LeadsAreSound → NewCoresAreSane → StoresStaySane
      stores_stay_sane leads new lives d led = lives_sane lives fresh d (leads [] fresh [] refl refl) new led

-- ---- records by their entries

one_record : OneReading → (r t : UnitRecord) → IsGood r → IsGood t → entry_of r ≡ entry_of t → r ≡ t
one_record once r t good_r good_t same =
    once (kind_of r) (record_bytes r) r t (record { same_kind = refl; bytes = refl; good = good_r })
    (record { same_kind = ap (λ (e : Entry). e.kind) same; bytes = ap (λ (e : Entry). e.body) same; good = good_t })

pub entries_tell : OneReading → EntriesTell
entries_tell once [] [] good_r good_t same = refl
entries_tell once [] (t ∷ ts) good_r good_t same = absurd cc
entries_tell once (r ∷ rs) [] good_r good_t same = absurd cc
entries_tell once (r ∷ rs) (t ∷ ts) good_r good_t same =
    let first = one_record once r t good_r.0 good_t.0 (ap (head_or (entry_of r)) same) in
    let rest = entries_tell once rs ts good_r.1 good_t.1 (ap tail_of same) in
    λ i. first i ∷ rest i
  where
    head_or : Entry → List Entry → Entry
    head_or e [] = e
    head_or e (f ∷ fs) = f

    tail_of : List Entry → List Entry
    tail_of [] = []
    tail_of (e ∷ es) = es
