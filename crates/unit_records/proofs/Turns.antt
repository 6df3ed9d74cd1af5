-- Calls that are made together: each is done in its turn, and leaves those of other units as they were.
use Rattle.std.proofs.Common.{◌≡◌, ⊎_elim, Bool, true, false, cond, ℕ, ◌+◌, ◌≤◌, List, [], ◌∷◌, ◌++◌, Option, Some, None, refl, sym, ◌∙◌, ap, subst, arith}
use Rattle.std.proofs.lemmas.Bool.{leb-true, lt-leb}
use Rattle.std.proofs.lemmas.List.Sums.{sum_by-cons}
use Rattle.std.specs.Prelude.{if◌then◌else◌, ◌&&◌, ◌||◌, bytes_eq, find, is_some, nat_le, not, option_map}
use Rattle.std.specs.List.{list_any}
use Rattle.drda_words.proofs.Precedes.{bytes_eq-refl, same_bytes}
use Rattle.tables.specs.Change.{Change}
use Rattle.tables.specs.Tables.{Store, apply}
use Rattle.xa_manager.specs.declared.branch.Branch.{Branch}
use Rattle.xa_manager.specs.declared.branch.BranchState.{BranchState}
use Rattle.xa_manager.specs.declared.branch.BranchState.TheVariants.{Active, Heuristic, Idle, Prepared, RollbackOnly}
use Rattle.xa_manager.specs.declared.due.Decision.TheVariants as decision
use Rattle.xa_manager.specs.declared.due.Due.{Due}
use Rattle.xa_manager.specs.declared.due.Facts.{Facts}
use Rattle.xa_manager.specs.declared.due.Work.{Work as Told}
use Rattle.xa_manager.specs.Branch.{in_doubt_count, is_in_doubt, is_joined_by, joined_xid, state_of, with_state, without as without_branch}
use Rattle.xa_manager.specs.Due.{after, done, due_at, facts_of}
use Rattle.xa_manager.specs.Laws.{IsIdle}
use Rattle.xa_manager.proofs.AllCalls.{other_with_state, other_without}
use Rattle.xa_manager.proofs.Rising.{Rises, count_of-filter, count_of-with_state, rises, rises_filter, rises_state}
use Rattle.core_calls.specs.Answer as told
use Rattle.core_model.proofs.Owners.{both, unit_of_without, which}
use Rattle.core_model.specs.Units.{Held, Owner, Work, apply_all, global, has_any, local, same_owner, unit_of, without}
use Rattle.core_model.specs.Events as event
use Rattle.core_model.specs.Events.{Event, bare_run}
use Rattle.core_model.specs.Step.{CoreState, action_events, answer, due_in, facts, step_state, unless_joined}
use Rattle.unit_records.specs.Due.{action_due, commit_due, record_due}
use Rattle.unit_records.specs.Phases.{action_of, verb_of}
use Rattle.unit_records.specs.Records.{UnitRecord, committed}
use Rattle.unit_records.specs.declared.group_call.Asked.{Asked}
use Rattle.unit_records.specs.declared.group_call.Asked.TheVariants.{Commit, Through}
use Rattle.unit_records.specs.declared.group_call.GroupCall.{GroupCall}
use Rattle.unit_records.specs.declared.phase.Phase.{Phase}
use Rattle.unit_records.specs.declared.phase.Phase.TheVariants.{Decide, Prepare}
use Rattle.unit_records.specs.Together.{AreDue, AreTaken, CallsGoTogether, IsDueFor, all_changes, all_made, answer_for, are_apart, are_few, are_ready, branches_behind, branches_for, call_for, changes_for, is_prepare, is_ready, owner_for, owner_in, prepares_in, record_for, stands_alone, stands_for, units_behind, works_for}

-- ---- tests

pub both_hold : (a b : Bool) → (a && b) ≡ true → (a ≡ true) × (b ≡ true)
both_hold true b h = (refl, h)
both_hold false b h = both false h refl

hold_both : (a b : Bool) → a ≡ true → b ≡ true → (a && b) ≡ true
hold_both true b h k = k
hold_both false b h k = h

neither : (a b : Bool) → (a || b) ≡ false → (a ≡ false) × (b ≡ false)
neither true b h = both true refl h
neither false b h = (refl, h)

none_of : (a b : Bool) → a ≡ false → b ≡ false → (a || b) ≡ false
none_of true b h k = h
none_of false b h k = k

is_not : (b : Bool) → not b ≡ true → b ≡ false
is_not true h = both false h refl
is_not false h = refl

turned_round : (x y : List ℕ) → bytes_eq x y ≡ false → bytes_eq y x ≡ false
turned_round x y ne =
    ⊎_elim
    (λ so. both (bytes_eq x y) (subst (λ (z : List ℕ). bytes_eq z y ≡ true) (same_bytes y x so) (bytes_eq-refl y)) ne)
    (λ no. no)
    (which (bytes_eq y x))

-- ---- one call

-- what happens to the units
abbrev events_for : ℕ → Asked → List Event
events_for n Commit = event.Commit (local n) ∷ []
events_for n (Through phase x) = action_events x (action_of phase)

-- the core behind the call
abbrev stepped : ℕ → Asked → CoreState → CoreState
stepped n a s = record { base = bare_run (events_for n a) s.base; branches = branches_for s.branches n a }

-- the call is done, with a record
record IsTurn (n : ℕ) (a : Asked) (s : CoreState) : Type 0 where
  due : IsDueFor s.branches n a
  answered : answer s.branches s.base n (call_for a) ≡ answer_for a
  recorded : record_due s n (call_for a) ≡ Some (record_for a (unit_of (owner_for n a) s.base.units))
  steps : step_state s n (call_for a) ≡ stepped n a s

-- one more may be in doubt, where that is asked for
abbrev HasRoom : Asked → CoreState → Type 0
HasRoom a s = is_prepare a ≡ true → nat_le 256 (in_doubt_count s.branches) ≡ false

-- what else is so where the phase is due of a branch: its unit has changes, and one more may be in doubt
abbrev Allows : Phase → Told → ℕ → Type 0
Allows Prepare work in_doubt = (work.has_changes ≡ true) × (nat_le 256 in_doubt ≡ false)
Allows (Decide d) work in_doubt = Unit {0}

due_for : (phase : Phase) (o : Option BranchState) (f : Facts) → stands_for phase o ≡ true → Allows phase f.work f.in_doubt → due_at (verb_of phase) o f ≡ done (action_of phase)
due_for Prepare (Some (Idle n)) f stands allows = rw (allows.0, allows.1) refl
due_for Prepare (Some (Active n)) f stands allows = absurd cc
due_for Prepare (Some (RollbackOnly n)) f stands allows = absurd cc
due_for Prepare (Some Prepared) f stands allows = absurd cc
due_for Prepare (Some (Heuristic d)) f stands allows = absurd cc
due_for Prepare None f stands allows = absurd cc
due_for (Decide decision.Commit) (Some Prepared) f stands allows = refl
due_for (Decide decision.RollBack) (Some Prepared) f stands allows = refl
due_for (Decide d) (Some (Idle n)) f stands allows = absurd cc
due_for (Decide d) (Some (Active n)) f stands allows = absurd cc
due_for (Decide d) (Some (RollbackOnly n)) f stands allows = absurd cc
due_for (Decide d) (Some (Heuristic h)) f stands allows = absurd cc
due_for (Decide d) None f stands allows = absurd cc

-- what is asked of the units where nothing but a branch's changes counts
abbrev fixed : Told
fixed = record { is_local = false; has_changes = true }

allowed : (phase : Phase) (n : ℕ) (x : List ℕ) (s : CoreState) → works_for phase (unit_of (global x) s.base.units).changes ≡ true → HasRoom (Through phase x) s
    → Allows phase fixed (in_doubt_count s.branches) × Allows phase (facts s.base n x) (in_doubt_count s.branches)
allowed Prepare n x s works room = ((refl, room refl), (works, room refl))
allowed (Decide d) n x s works room = (tt, tt)

is_none : (o : Option (List ℕ)) → is_some o ≡ false → o ≡ None
is_none None h = refl
is_none (Some x) h = both true refl h

commit_recorded : (xs : List Change) → has_any xs ≡ true → commit_due xs ≡ Some (committed xs)
commit_recorded [] h = both false h refl
commit_recorded (x ∷ xs) h = refl

phase_recorded : (phase : Phase) (x : List ℕ) (u : Work) → action_due x u (action_of phase) ≡ Some (record_for (Through phase x) u)
phase_recorded Prepare x u = refl
phase_recorded (Decide d) x u = refl

turn : (n : ℕ) (a : Asked) (s : CoreState) → stands_alone s n a ≡ true → HasRoom a s → IsTurn n a s
turn n Commit s stands room =
    let changes : List Change = (unit_of (local n) s.base.units).changes in
    let each = both_hold (not (is_some (joined_xid s.branches n))) (has_any changes) stands in
    let alone : joined_xid s.branches n ≡ None = is_none (joined_xid s.branches n) (is_not (is_some (joined_xid s.branches n)) each.0) in
    record {
      due = tt;
      answered = ap (λ (o : Option (List ℕ)). unless_joined o told.done told.in_global) alone;
      recorded = ap (λ (o : Option (List ℕ)). unless_joined o (commit_due changes) None) alone ∙ commit_recorded changes each.1;
      steps = ap (λ (o : Option (List ℕ)). record { base = bare_run (unless_joined o (event.Commit (local n) ∷ []) []) s.base; branches = s.branches }) alone;
    }
turn n (Through phase x) s stands room =
    let unit : Work = unit_of (global x) s.base.units in
    let each = both_hold (stands_for phase (state_of s.branches x)) (works_for phase unit.changes) stands in
    let allows = allowed phase n x s each.1 room in
    let here : due_in s.branches s.base n (verb_of phase) x ≡ done (action_of phase) = due_for phase (state_of s.branches x) (facts_of s.branches n (facts s.base n x)) each.0 allows.1 in
    record {
      due = due_for phase (state_of s.branches x) (facts_of s.branches n fixed) each.0 allows.0;
      answered = ap (λ (d : Due). told.xa d.code) here;
      recorded = ap (λ (d : Due). action_due x unit d.action) here ∙ phase_recorded phase x unit;
      steps = ap (λ (d : Due). record { base = bare_run (action_events x d.action) s.base; branches = after s.branches n x d.action }) here;
    }

-- ---- the others, behind one

-- the unit of another owner is as it was
others_work : (n : ℕ) (a : Asked) (s : CoreState) (p : Owner) → same_owner p (owner_for n a) ≡ false → unit_of p (stepped n a s).base.units ≡ unit_of p s.base.units
others_work n Commit s p ne = unit_of_without p (local n) s.base.units ne
others_work n (Through Prepare x) s p ne = refl
others_work n (Through (Decide decision.Commit) x) s p ne = unit_of_without p (global x) s.base.units ne
others_work n (Through (Decide decision.RollBack) x) s p ne = unit_of_without p (global x) s.base.units ne

-- another's branch stands where it stood
others_stand : (n : ℕ) (a : Asked) (s : CoreState) (y : List ℕ) → same_owner (global y) (owner_for n a) ≡ false → state_of (stepped n a s).branches y ≡ state_of s.branches y
others_stand n Commit s y ne = refl
others_stand n (Through Prepare x) s y ne = other_with_state s.branches x Prepared y (turned_round y x ne)
others_stand n (Through (Decide d) x) s y ne = other_without s.branches x y (turned_round y x ne)

-- a conversation that is joined to no branch
abbrev is_joined : List Branch → ℕ → Bool
is_joined bs m = is_some (joined_xid bs m)

-- by whether it is joined to the first
abbrev first_joins : (m : ℕ) (b : Branch) (bs : List Branch) → Bool → Bool
first_joins m b bs t = is_some (option_map (λ (x : Branch). x.xid) (if t then Some b else find (λ (x : Branch). is_joined_by m x.state) bs))

apart_from : (m : ℕ) (b : Branch) (bs : List Branch) → is_joined (b ∷ bs) m ≡ false → (is_joined_by m b.state ≡ false) × (is_joined bs m ≡ false)
apart_from m b bs none =
    ⊎_elim
    (λ so. both true refl (sym (ap (first_joins m b bs) so) ∙ none))
    (λ out. (out, sym (ap (first_joins m b bs) out) ∙ none))
    (which (is_joined_by m b.state))

one_apart : (m : ℕ) (b : Branch) (bs : List Branch) → is_joined_by m b.state ≡ false → is_joined bs m ≡ false → is_joined (b ∷ bs) m ≡ false
one_apart m b bs out none = ap (first_joins m b bs) out ∙ none

prepared_apart : (m : ℕ) (t : Bool) (b : Branch) → is_joined_by m b.state ≡ false → is_joined_by m (if t then record { xid = b.xid; state = Prepared } else b).state ≡ false
prepared_apart m true b out = refl
prepared_apart m false b out = out

apart_still : (m : ℕ) (bs : List Branch) (x : List ℕ) → is_joined bs m ≡ false → is_joined (with_state bs x Prepared) m ≡ false
apart_still m [] x none = none
apart_still m (b ∷ bs) x none =
    let each = apart_from m b bs none in
    one_apart m (if bytes_eq b.xid x then record { xid = b.xid; state = Prepared } else b) (with_state bs x Prepared) (prepared_apart m (bytes_eq b.xid x) b each.0) (apart_still m bs x each.1)

apart_left : (m : ℕ) (bs : List Branch) (x : List ℕ) → is_joined bs m ≡ false → is_joined (without_branch bs x) m ≡ false
apart_left m [] x none = none
apart_left m (b ∷ bs) x none =
    let each = apart_from m b bs none in
    let P : Bool → Type 0 = λ t. is_joined (if t then b ∷ without_branch bs x else without_branch bs x) m ≡ false in
    ⊎_elim
    (λ so. subst P (sym so) (one_apart m b (without_branch bs x) each.0 (apart_left m bs x each.1)))
    (λ no. subst P (sym no) (apart_left m bs x each.1))
    (which (not (bytes_eq b.xid x)))

-- who was joined to no branch is joined to none
still_apart : (n : ℕ) (a : Asked) (s : CoreState) (m : ℕ) → is_joined s.branches m ≡ false → is_joined (stepped n a s).branches m ≡ false
still_apart n Commit s m none = none
still_apart n (Through Prepare x) s m none = apart_still m s.branches x none
still_apart n (Through (Decide d) x) s m none = apart_left m s.branches x none

still_alone : (n : ℕ) (a : Asked) (s : CoreState) (m : ℕ) (b : Asked) → same_owner (owner_for m b) (owner_for n a) ≡ false → stands_alone s m b ≡ true → stands_alone (stepped n a s) m b ≡ true
still_alone n a s m Commit ne stands =
    let each = both_hold (not (is_joined s.branches m)) (has_any (unit_of (local m) s.base.units).changes) stands in
    hold_both (not (is_joined (stepped n a s).branches m)) (has_any (unit_of (local m) (stepped n a s).base.units).changes)
    (ap (λ (t : Bool). not t) (still_apart n a s m (is_not (is_joined s.branches m) each.0)))
    (ap (λ (w : Work). has_any w.changes) (others_work n a s (local m) ne) ∙ each.1)
still_alone n a s m (Through phase y) ne stands =
    ap (λ (o : Option BranchState). stands_for phase o && works_for phase (unit_of (global y) (stepped n a s).base.units).changes) (others_stand n a s y ne)
    ∙ ap (λ (w : Work). stands_for phase (state_of s.branches y) && works_for phase w.changes) (others_work n a s (global y) ne)
    ∙ stands

-- none of these calls is about the unit of that owner
abbrev is_among : Owner → List GroupCall → Bool
is_among p cs = list_any (λ (d : GroupCall). same_owner (owner_in d) p) cs

still_ready : (n : ℕ) (a : Asked) (s : CoreState) (cs : List GroupCall) → is_among (owner_for n a) cs ≡ false → are_ready s cs ≡ true → are_ready (stepped n a s) cs ≡ true
still_ready n a s [] apart ready = refl
still_ready n a s (d ∷ cs) apart ready =
    let aparts = neither (same_owner (owner_in d) (owner_for n a)) (is_among (owner_for n a) cs) apart in
    let readies = both_hold (is_ready s d) (are_ready s cs) ready in
    hold_both (is_ready (stepped n a s) d) (are_ready (stepped n a s) cs) (still_alone n a s d.conversation d.asked aparts.0 readies.0) (still_ready n a s cs aparts.1 readies.1)

still_rises : (n : ℕ) (a : Asked) (s : CoreState) → Rises s.branches → Rises (stepped n a s).branches
still_rises n Commit s r = r
still_rises n (Through Prepare x) s r = rises_state x Prepared s.branches r
still_rises n (Through (Decide d) x) s r = rises_filter (λ b. not (bytes_eq b.xid x)) s.branches r

idle_for : (o : Option BranchState) → stands_for Prepare o ≡ true → IsIdle o
idle_for (Some (Idle n)) stands = (n, refl)
idle_for (Some (Active n)) stands = absurd cc
idle_for (Some (RollbackOnly n)) stands = absurd cc
idle_for (Some Prepared) stands = absurd cc
idle_for (Some (Heuristic d)) stands = absurd cc
idle_for None stands = absurd cc

-- as many as are in doubt and may come to be behind a call are in doubt and may come to be before it
still_few : (n : ℕ) (a : Asked) (s : CoreState) (k : ℕ) → Rises s.branches → stands_alone s n a ≡ true → in_doubt_count s.branches + ((if is_prepare a then 1 else 0) + k) ≤ 256 → in_doubt_count (stepped n a s).branches + k ≤ 256
still_few n Commit s k r stands few = omega (arith, few)
still_few n (Through Prepare x) s k r stands few =
    let each = both_hold (stands_for Prepare (state_of s.branches x)) (works_for Prepare (unit_of (global x) s.base.units).changes) stands in
    let idle = idle_for (state_of s.branches x) each.0 in
    let count : in_doubt_count (with_state s.branches x Prepared) + 0 ≡ 1 + in_doubt_count s.branches = count_of-with_state is_in_doubt s.branches x Prepared (Idle idle.0) r idle.1 in
    omega (arith, few, count)
still_few n (Through (Decide d) x) s k r stands few =
    let fewer : in_doubt_count (without_branch s.branches x) ≤ in_doubt_count s.branches = count_of-filter is_in_doubt (λ b. not (bytes_eq b.xid x)) s.branches in
    omega (arith, few, fewer)

has_room : (a : Asked) (s : CoreState) (k : ℕ) → in_doubt_count s.branches + ((if is_prepare a then 1 else 0) + k) ≤ 256 → HasRoom a s
has_room Commit s k few is = both false is refl
has_room (Through Prepare x) s k few is = lt-leb 256 (in_doubt_count s.branches) (omega (arith, few))
has_room (Through (Decide d) x) s k few is = both false is refl

-- ---- all calls

abbrev behind : GroupCall → CoreState → CoreState
behind c s = stepped c.conversation c.asked s

-- each is done in its turn
abbrev Turns : List GroupCall → CoreState → Type 0
Turns [] s = Unit {0}
Turns (c ∷ cs) s = IsTurn c.conversation c.asked s × Turns cs (behind c s)

-- the first counts for itself
prepares_first : (c : GroupCall) (cs : List GroupCall) → prepares_in (c ∷ cs) ≡ (if is_prepare c.asked then 1 else 0) + prepares_in cs
prepares_first c cs = sum_by-cons (λ (d : GroupCall). cond (is_prepare d.asked) 1 0) c cs

turns : (cs : List GroupCall) (s : CoreState) → Rises s.branches → are_apart cs ≡ true → are_ready s cs ≡ true → in_doubt_count s.branches + prepares_in cs ≤ 256 → Turns cs s
turns [] s r apart ready few = tt
turns (c ∷ cs) s r apart ready few =
    let aparts = both_hold (not (is_among (owner_in c) cs)) (are_apart cs) apart in
    let readies = both_hold (is_ready s c) (are_ready s cs) ready in
    let each : in_doubt_count s.branches + ((if is_prepare c.asked then 1 else 0) + prepares_in cs) ≤ 256 = subst (λ (n : ℕ). in_doubt_count s.branches + n ≤ 256) (prepares_first c cs) few in (
      turn c.conversation c.asked s readies.0 (has_room c.asked s (prepares_in cs) each),
      turns cs (behind c s) (still_rises c.conversation c.asked s r) aparts.1 (still_ready c.conversation c.asked s cs (is_not (is_among (owner_in c) cs) aparts.0) readies.1)
          (still_few c.conversation c.asked s (prepares_in cs) r readies.0 each),
    )

all_due : (cs : List GroupCall) (s : CoreState) → Turns cs s → AreDue cs s.branches
all_due [] s t = tt
all_due (c ∷ cs) s t = (t.0.due, all_due cs (behind c s) t.1)

-- ---- the records

-- the units of these calls are what they were
abbrev AreSame : List Held → List Held → List GroupCall → Type 0
AreSame units now [] = Unit {0}
AreSame units now (c ∷ cs) = (unit_of (owner_in c) now ≡ unit_of (owner_in c) units) × AreSame units now cs

same_first : (units : List Held) (cs : List GroupCall) → AreSame units units cs
same_first units [] = tt
same_first units (c ∷ cs) = (refl, same_first units cs)

same_behind : (units : List Held) (n : ℕ) (a : Asked) (s : CoreState) (cs : List GroupCall) → is_among (owner_for n a) cs ≡ false → AreSame units s.base.units cs → AreSame units (stepped n a s).base.units cs
same_behind units n a s [] apart same = tt
same_behind units n a s (d ∷ cs) apart same =
    let aparts = neither (same_owner (owner_in d) (owner_for n a)) (is_among (owner_for n a) cs) apart in
    (others_work n a s (owner_in d) aparts.0 ∙ same.0, same_behind units n a s cs aparts.1 same.1)

all_taken : (units : List Held) (cs : List GroupCall) (s : CoreState) → are_apart cs ≡ true → AreSame units s.base.units cs → Turns cs s → AreTaken units cs s
all_taken units [] s apart same t = tt
all_taken units (c ∷ cs) s apart same t =
    let aparts = both_hold (not (is_among (owner_in c) cs)) (are_apart cs) apart in
    let rest : AreTaken units cs (behind c s) =
    all_taken units cs (behind c s) aparts.1 (same_behind units c.conversation c.asked s cs (is_not (is_among (owner_in c) cs) aparts.0) same.1) t.1 in (
      t.0.answered,
      t.0.recorded ∙ ap (λ (w : Work). let r : Option UnitRecord = Some (record_for c.asked w) in r) same.0,
      subst (λ (x : CoreState). AreTaken units cs x) (sym t.0.steps) rest,
    )

-- ---- the state

pub all_then : (xs ys : List Change) (s : Store) → apply_all (xs ++ ys) s ≡ apply_all ys (apply_all xs s)
all_then [] ys s = refl
all_then (x ∷ xs) ys s = all_then xs ys (apply x s)

-- what one call comes to
stepped_is : (n : ℕ) (a : Asked) (s : CoreState) → stepped n a s ≡ record {
  base = record {
    store = apply_all (changes_for a (unit_of (owner_for n a) s.base.units)) s.base.store;
    units = if is_prepare a then s.base.units else without (owner_for n a) s.base.units;
  };
  branches = branches_for s.branches n a;
}
stepped_is n Commit s = refl
stepped_is n (Through Prepare x) s = refl
stepped_is n (Through (Decide decision.Commit) x) s = refl
stepped_is n (Through (Decide decision.RollBack) x) s = refl

-- the changes of others stay
changes_stay : (units now : List Held) (cs : List GroupCall) → AreSame units now cs → all_changes now cs ≡ all_changes units cs
changes_stay units now [] same = refl
changes_stay units now (c ∷ cs) same =
    ap (λ (w : Work). changes_for c.asked w ++ all_changes now cs) same.0 ∙ ap (λ (xs : List Change). changes_for c.asked (unit_of (owner_in c) units) ++ xs) (changes_stay units now cs same.1)

-- what they all come to
abbrev come_to : List GroupCall → CoreState → CoreState
come_to cs s = record {
  base = record { store = apply_all (all_changes s.base.units cs) s.base.store; units = units_behind cs s.base.units };
  branches = branches_behind cs s.branches;
}

-- so does the first with what the others come to
first_and_others : (c : GroupCall) (cs : List GroupCall) (s : CoreState) → is_among (owner_in c) cs ≡ false → come_to cs (behind c s) ≡ come_to (c ∷ cs) s
first_and_others c cs s apart =
    let first : List Change = changes_for c.asked (unit_of (owner_in c) s.base.units) in
    let units : List Held = if is_prepare c.asked then s.base.units else without (owner_in c) s.base.units in
    let branches : List Branch = branches_for s.branches c.conversation c.asked in
    let same = same_behind s.base.units c.conversation c.asked s cs apart (same_first s.base.units cs) in
    let stay : all_changes units cs ≡ all_changes s.base.units cs = ap (λ (t : CoreState). all_changes t.base.units cs) (sym (stepped_is c.conversation c.asked s)) ∙ changes_stay s.base.units (behind c s).base.units cs same in
    let at : Store → CoreState = λ st. record { base = record { store = st; units = units_behind cs units }; branches = branches_behind cs branches } in
    ap (λ (t : CoreState). come_to cs t) (stepped_is c.conversation c.asked s)
    ∙ ap (λ (xs : List Change). at (apply_all xs (apply_all first s.base.store))) stay
    ∙ ap at (sym (all_then first (all_changes s.base.units cs) s.base.store))

all_come_to : (cs : List GroupCall) (s : CoreState) → are_apart cs ≡ true → Turns cs s → all_made cs s ≡ come_to cs s
all_come_to [] s apart t = refl
all_come_to (c ∷ cs) s apart t =
    let aparts = both_hold (not (is_among (owner_in c) cs)) (are_apart cs) apart in
    ap (λ (x : CoreState). all_made cs x) t.0.steps ∙ all_come_to cs (behind c s) aparts.1 t.1 ∙ first_and_others c cs s (is_not (is_among (owner_in c) cs) aparts.0)

pub calls_go_together : CallsGoTogether
calls_go_together cs s rising may =
    let some = both_hold (has_any cs) (are_apart cs && (are_ready s cs && are_few s.branches cs)) may in
    let apart = both_hold (are_apart cs) (are_ready s cs && are_few s.branches cs) some.1 in
    let ready = both_hold (are_ready s cs) (are_few s.branches cs) apart.1 in
    let each = turns cs s (rises s.branches rising) apart.0 ready.0 (leb-true (in_doubt_count s.branches + prepares_in cs) 256 ready.1) in
    record { due = all_due cs s each; taken = all_taken s.base.units cs s apart.0 (same_first s.base.units cs) each; state = all_come_to cs s apart.0 each }
