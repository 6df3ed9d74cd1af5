-- Steps of the core, and what is durable of it.
use Rattle.std.specs.Prelude.{◌≡◌, ◌≤◌, ℕ, List, true, Some, None}
use Rattle.core_calls.specs.Answer.{Answer}
use Rattle.core_calls.specs.Call.{Call}
use Rattle.core_model.specs.Misread.{Misreads}
use Rattle.core_model.specs.Step.{CoreState, decided_state, step_state}
use Rattle.xa_manager.specs.declared.branch.BranchState.TheVariants.{Prepared}
use Rattle.xa_manager.specs.declared.due.Decision.{Decision}
use Rattle.xa_manager.specs.Branch.{state_of}
use Rattle.half_store.specs.declared.header.Layout.TheVariants.{Two}
use Rattle.unit_records.specs.Records.{UnitRecord, heuristic}
use Rattle.std.specs.List.{AllByRecursion}
use Rattle.tables.specs.Tables.{Store}
use Rattle.unit_journal.specs.Record.{Entry}
use Rattle.recovery.specs.Journal.{Leads}
use Rattle.recovery.specs.Known.{AreKnown, IsKnown, ReleaseAll, Releases}
use Rattle.unit_records.specs.Room.{released, released_by}
use Rattle.recovery.specs.Durable.{Durable, at_checkpoint, next, replayed_from}
use Rattle.half_store.specs.declared.header.Layout.{Layout}
use Rattle.recovery.specs.Laws.{held_for}
use Rattle.recovery.specs.Sound.{IsSound}
use Rattle.unit_records.specs.Due.{record_due}
use Rattle.unit_records.specs.Together.{all_made, may_make, records_of}
use Rattle.unit_records.specs.declared.group_call.GroupCall.{GroupCall}
use Rattle.recovery.specs.Part.{durable_part, opened}
use Rattle.recovery.specs.Kept.{IsKept}

-- a kept core stays so
abbrev pub StepsKeep : Type 0
StepsKeep = (s : CoreState) (conversation : ℕ) (k : Call) → IsKept s → IsKept (step_state s conversation k)

-- where no record is due, nothing durable changes
abbrev pub SilentStepsStay : Type 0
SilentStepsStay = (s : CoreState) (conversation : ℕ) (k : Call) → IsKept s → record_due s conversation k ≡ None → durable_part (step_state s conversation k) ≡ durable_part s

-- a record that is due has its place, and leads to what is durable then
abbrev pub RecordsLead : Type 0
RecordsLead = (s : CoreState) (conversation : ℕ) (k : Call) (r : UnitRecord) → IsKept s → record_due s conversation k ≡ Some r → next (durable_part s) r ≡ Some (durable_part (step_state s conversation k))

-- what a record that is due releases was held for a branch in doubt
abbrev pub DecisionsAreOfDoubts : Type 0
DecisionsAreOfDoubts = (layout : Layout) (s : CoreState) (conversation : ℕ) (k : Call) (r : UnitRecord) → IsKept s → record_due s conversation k ≡ Some r
    → (released layout r ≤ held_for layout (durable_part s).doubts) × Releases layout (durable_part s) r

-- A record that is due is of the layout's kinds, where those of the journal are: a forgetting is due only where a heuristic decision was recorded
abbrev pub DueAreKnown : Type 0
DueAreKnown = (layout : Layout) (store : Store) (es : List Entry) (s : CoreState) (conversation : ℕ) (k : Call) (r : UnitRecord)
    → AreKnown layout es → Leads (at_checkpoint store) es (durable_part s) → IsKept s → record_due s conversation k ≡ Some r → IsKnown layout r

-- ---- a statement that is given other rows

-- it keeps a core
abbrev pub MisreadsKeep : Type 0
MisreadsKeep = (s new : CoreState) (conversation : ℕ) (k : Call) (told : Answer) → IsKept s → Misreads s conversation k told new → IsKept new

-- and changes nothing durable
abbrev pub MisreadsStay : Type 0
MisreadsStay = (s new : CoreState) (conversation : ℕ) (k : Call) (told : Answer) → IsKept s → Misreads s conversation k told new → durable_part new ≡ durable_part s

-- ---- a heuristic decision of a prepared branch

-- it keeps a core
abbrev pub DecisionsKeep : Type 0
DecisionsKeep = (s : CoreState) (xid : List ℕ) (d : Decision) → IsKept s → state_of s.branches xid ≡ Some Prepared → IsKept (decided_state s xid d)

-- its record has its place, and leads to what is durable then
abbrev pub DecisionsLead : Type 0
DecisionsLead = (s : CoreState) (xid : List ℕ) (d : Decision) → IsKept s → state_of s.branches xid ≡ Some Prepared → next (durable_part s) (heuristic xid d) ≡ Some (durable_part (decided_state s xid d))

-- what it releases was held for the branch
abbrev pub HeuristicsAreOfDoubts : Type 0
HeuristicsAreOfDoubts = (s : CoreState) (xid : List ℕ) (d : Decision) → IsKept s → state_of s.branches xid ≡ Some Prepared → (released Two (heuristic xid d) ≤ held_for Two (durable_part s).doubts) × Releases Two (durable_part s) (heuristic xid d)

-- ---- a core that is opened

-- what records lead to is sound, and a core that is opened over it is kept
pub record IsOpened (d : Durable) : Type 0 where
  pub kept : IsKept (opened d)
  pub part : durable_part (opened d) ≡ d

abbrev pub OpeningsAreKept : Type 0
OpeningsAreKept = (d : Durable) → IsSound d → IsOpened d

-- ---- calls that are made together

-- they keep a core
abbrev pub GroupsKeep : Type 0
GroupsKeep = (s : CoreState) (cs : List GroupCall) → IsKept s → IsKept (all_made cs s)

-- their records have their places, one behind another, and lead to what is durable behind them all
abbrev pub GroupsLead : Type 0
GroupsLead = (s : CoreState) (cs : List GroupCall) → IsKept s → may_make s cs ≡ true → replayed_from (durable_part s) (records_of s.base.units cs) ≡ Some (durable_part (all_made cs s))

-- what they release is held for branches in doubt, before any of them
abbrev pub GroupsAreOfDoubts : Type 0
GroupsAreOfDoubts = (layout : Layout) (s : CoreState) (cs : List GroupCall) → IsKept s → may_make s cs ≡ true
    → (released_by layout (records_of s.base.units cs) ≤ held_for layout (durable_part s).doubts) × ReleaseAll layout (durable_part s) (records_of s.base.units cs)

-- they are of every layout's kinds
abbrev pub GroupsAreKnown : Type 0
GroupsAreKnown = (layout : Layout) (s : CoreState) (cs : List GroupCall) → AllByRecursion (IsKnown layout) (records_of s.base.units cs)
