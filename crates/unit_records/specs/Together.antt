-- Calls that are made together: commits of local units, prepares and decisions of branches, each of another unit. Each has a
-- record of its own.
use Rattle.std.specs.Prelude.{◌≡◌, ℕ, ◌+◌, ◌&&◌, ◌++◌, nat_le, Bool, true, false, not, List, [], ◌∷◌, map, count_by, Option, Some, None, is_some, if◌then◌else◌}
use Rattle.std.specs.List.{list_any}
use Rattle.drda_words.specs.Order.{IsRising}
use Rattle.tables.specs.Change.{Change}
use Rattle.xa_calls.specs.declared.code.XaCode.TheVariants as code
use Rattle.xa_calls.specs.declared.request.Request.TheVariants as request
use Rattle.xa_manager.specs.declared.branch.Branch.{Branch}
use Rattle.xa_manager.specs.declared.branch.BranchState.{BranchState}
use Rattle.xa_manager.specs.declared.branch.BranchState.TheVariants.{Active, Heuristic, Idle, Prepared, RollbackOnly}
use Rattle.xa_manager.specs.declared.due.Decision.TheVariants as decision
use Rattle.xa_manager.specs.Branch.{in_doubt_count, joined_xid, state_of}
use Rattle.xa_manager.specs.Due.{after, done, due_of}
use Rattle.core_calls.specs.Call as call
use Rattle.core_calls.specs.Call.{Call}
use Rattle.core_calls.specs.Answer as told
use Rattle.core_calls.specs.Answer.{Answer}
use Rattle.core_model.specs.Units.{Held, Owner, Work, apply_all, global, has_any, local, same_owner, unit_of, without}
use Rattle.core_model.specs.Step.{CoreState, answer, step_state}
use Rattle.unit_records.specs.Records.{UnitRecord, committed, decided, prepared}
use Rattle.unit_records.specs.Due.{record_due}
use Rattle.unit_records.specs.Phases.{action_of, verb_of}
use Rattle.unit_records.specs.declared.group_call.Asked.{Asked}
use Rattle.unit_records.specs.declared.group_call.Asked.TheVariants.{Commit, Through}
use Rattle.unit_records.specs.declared.group_call.GroupCall.{GroupCall}
use Rattle.unit_records.specs.declared.phase.Phase.{Phase}
use Rattle.unit_records.specs.declared.phase.Phase.TheVariants.{Decide, Prepare}
use Rattle.unit_records.specs.declared.group_error.GroupError.{GroupError}
use Rattle.unit_records.specs.declared.group_error.GroupError.TheVariants.{DeviceFailed, Refused}

-- ---- the calls

abbrev pub call_for : Asked → Call
call_for Commit = call.commit
call_for (Through phase xid) = call.xa (Some (request.Branch (verb_of phase) xid))

-- whose unit it is about
abbrev pub owner_for : ℕ → Asked → Owner
owner_for conversation Commit = local conversation
owner_for conversation (Through phase xid) = global xid

abbrev pub owner_in : GroupCall → Owner
owner_in c = owner_for c.conversation c.asked

-- these calls are made, one after another
abbrev pub all_made : List GroupCall → CoreState → CoreState
all_made [] s = s
all_made (c ∷ cs) s = all_made cs (step_state s c.conversation (call_for c.asked))

-- ---- when they may be made together

-- an idle branch may be prepared, and one in doubt decided
abbrev pub stands_for : Phase → Option BranchState → Bool
stands_for Prepare (Some (Idle _)) = true
stands_for Prepare (Some (Active _)) = false
stands_for Prepare (Some (RollbackOnly _)) = false
stands_for Prepare (Some Prepared) = false
stands_for Prepare (Some (Heuristic _)) = false
stands_for Prepare None = false
stands_for (Decide d) (Some Prepared) = true
stands_for (Decide d) (Some (Idle _)) = false
stands_for (Decide d) (Some (Active _)) = false
stands_for (Decide d) (Some (RollbackOnly _)) = false
stands_for (Decide d) (Some (Heuristic _)) = false
stands_for (Decide d) None = false

-- a unit that is prepared has changes; without, its branch would end
abbrev pub works_for : Phase → List Change → Bool
works_for Prepare changes = has_any changes
works_for (Decide d) changes = true

-- alone the call would be done, with a record: a conversation that commits is joined to no branch
abbrev pub stands_alone : CoreState → ℕ → Asked → Bool
stands_alone s conversation Commit = not (is_some (joined_xid s.branches conversation)) && has_any (unit_of (local conversation) s.base.units).changes
stands_alone s conversation (Through phase xid) = stands_for phase (state_of s.branches xid) && works_for phase (unit_of (global xid) s.base.units).changes

abbrev pub is_ready : CoreState → GroupCall → Bool
is_ready s c = stands_alone s c.conversation c.asked

abbrev pub are_ready : CoreState → List GroupCall → Bool
are_ready s [] = true
are_ready s (c ∷ cs) = is_ready s c && are_ready s cs

-- no two are about one unit
abbrev pub are_apart : List GroupCall → Bool
are_apart [] = true
are_apart (c ∷ cs) = not (list_any (λ (d : GroupCall). same_owner (owner_in d) (owner_in c)) cs) && are_apart cs

abbrev pub is_prepare : Asked → Bool
is_prepare Commit = false
is_prepare (Through Prepare xid) = true
is_prepare (Through (Decide d) xid) = false

-- how many branches are prepared
abbrev pub prepares_in : List GroupCall → ℕ
prepares_in cs = count_by (λ (c : GroupCall). is_prepare c.asked) cs

-- with those that are prepared, 256 are in doubt at most
abbrev pub are_few : List Branch → List GroupCall → Bool
are_few bs cs = nat_le (in_doubt_count bs + prepares_in cs) 256

abbrev pub may_make : CoreState → List GroupCall → Bool
may_make s cs = has_any cs && (are_apart cs && (are_ready s cs && are_few s.branches cs))

-- ---- what becomes of them

-- the record of a call, by its unit
abbrev pub record_for : Asked → Work → UnitRecord
record_for Commit unit = committed unit.changes
record_for (Through Prepare xid) unit = prepared xid unit.changes unit.claims
record_for (Through (Decide d) xid) unit = decided xid d

abbrev pub record_of : List Held → GroupCall → UnitRecord
record_of units c = record_for c.asked (unit_of (owner_in c) units)

-- the records of all of them, by their units
abbrev pub records_of : List Held → List GroupCall → List UnitRecord
records_of units cs = map (record_of units) cs

-- the changes of its unit are made
abbrev pub is_commit : Asked → Bool
is_commit Commit = true
is_commit (Through Prepare xid) = false
is_commit (Through (Decide decision.Commit) xid) = true
is_commit (Through (Decide decision.RollBack) xid) = false

-- the changes that a call makes
abbrev pub changes_for : Asked → Work → List Change
changes_for a unit = if is_commit a then unit.changes else []

abbrev pub all_changes : List Held → List GroupCall → List Change
all_changes units [] = []
all_changes units (c ∷ cs) = changes_for c.asked (unit_of (owner_in c) units) ++ all_changes units cs

-- the units that are left: one that is prepared stays
abbrev pub units_behind : List GroupCall → List Held → List Held
units_behind [] units = units
units_behind (c ∷ cs) units = units_behind cs (if is_prepare c.asked then units else without (owner_in c) units)

-- the branches
abbrev pub branches_for : List Branch → ℕ → Asked → List Branch
branches_for bs conversation Commit = bs
branches_for bs conversation (Through phase xid) = after bs conversation xid (action_of phase)

abbrev pub branches_behind : List GroupCall → List Branch → List Branch
branches_behind [] bs = bs
branches_behind (c ∷ cs) bs = branches_behind cs (branches_for bs c.conversation c.asked)

-- a branch is due for its phase
abbrev pub IsDueFor : List Branch → ℕ → Asked → Type 0
IsDueFor bs conversation Commit = Unit {0}
IsDueFor bs conversation (Through phase xid) = due_of bs conversation (verb_of phase) xid (record { is_local = false; has_changes = true }) ≡ done (action_of phase)

-- each is, in its turn
abbrev pub AreDue : List GroupCall → List Branch → Type 0
AreDue [] bs = Unit {0}
AreDue (c ∷ cs) bs = IsDueFor bs c.conversation c.asked × AreDue cs (branches_for bs c.conversation c.asked)

abbrev pub answer_for : Asked → Answer
answer_for Commit = told.done
answer_for (Through phase xid) = told.xa code.Done

-- Each call is answered that it was done, in its turn, and makes the record due that its unit gave before them all.
abbrev pub AreTaken : List Held → List GroupCall → CoreState → Type 0
AreTaken units [] s = Unit {0}
AreTaken units (c ∷ cs) s = (answer s.branches s.base c.conversation (call_for c.asked) ≡ answer_for c.asked)
    × (record_due s c.conversation (call_for c.asked) ≡ Some (record_of units c))
    × AreTaken units cs (step_state s c.conversation (call_for c.asked))

-- what calls come to that are made together
pub record GoesTogether (cs : List GroupCall) (s : CoreState) : Type 0 where
  pub due : AreDue cs s.branches
  pub taken : AreTaken s.base.units cs s
  pub state : all_made cs s ≡ record {
    base = record { store = apply_all (all_changes s.base.units cs) s.base.store; units = units_behind cs s.base.units };
    branches = branches_behind cs s.branches;
  }

abbrev pub CallsGoTogether : Type 0
CallsGoTogether = (cs : List GroupCall) (s : CoreState) → IsRising (λ b. b.xid) s.branches → may_make s cs ≡ true → GoesTogether cs s

-- ---- records that are made together

-- they are refused, and nothing has changed; or the device fails at them
abbrev pub FailsTogether : {R : Type 0} → (R → List UnitRecord → R → Type 0) → List UnitRecord → GroupError → R → R → Type 0
FailsTogether fails records Refused before after = after ≡ before
FailsTogether fails records DeviceFailed before after = fails before records after
