-- What a heuristic decision makes of a core whose units are recorded on a disk. The refusals stand in their order: closed, of layout
-- 1, not in doubt, out of memory; then the device may fail.
use Rattle.std.specs.Prelude.{◌≡◌, ℕ, ◌+◌, true, false, List, [], ◌∷◌, Some}
use Rattle.half_store.specs.declared.header.Layout.TheVariants.{One, Two}
use Rattle.xa_manager.specs.declared.branch.BranchState.TheVariants.{Prepared}
use Rattle.xa_manager.specs.declared.due.Decision.{Decision}
use Rattle.xa_manager.specs.Branch.{state_of}
use Rattle.core_model.specs.Step.{decided_state}
use Rattle.unit_records.specs.MadeRecords.{with_begun, with_done}
use Rattle.unit_records.specs.Records.{entry_of, heuristic}
use Rattle.recovery.specs.Journaled.{IsUnchanged, Shown}
use Rattle.durable_core.specs.declared.deciding.Decided.{Decided}
use Rattle.durable_core.specs.declared.deciding.Decided.TheVariants.{Closed, DeviceFailed, Done, NoMemory, NotInDoubt, OldLayout}

-- the branch of the XID waits for its decision, and may be decided here
pub record MayDecide (old : Shown) (xid : List ℕ) : Type 0 where
  pub going : old.is_failed ≡ false
  pub layout_is : old.layout ≡ Two
  pub waits : state_of old.state.branches xid ≡ Some Prepared

-- It is decided so, and stands so until it is forgotten. Its record had its room since the branch was prepared.
pub record IsDecided (old : Shown) (xid : List ℕ) (d : Decision) (new : Shown) : Type 0 where
  pub may : MayDecide old xid
  pub name : new.name ≡ old.name
  pub state : new.state ≡ decided_state old.state xid d
  pub layout : new.layout ≡ old.layout
  pub room : new.room ≡ old.room
  pub faults : new.disk.faults ≡ old.disk.faults
  pub still : new.is_failed ≡ false
  pub made : new.made ≡ with_done old.made ((entry_of (heuristic xid d) ∷ []) ∷ [])

-- no branch of this XID waits for its decision
pub record IsNotInDoubt (old : Shown) (xid : List ℕ) (new : Shown) : Type 0 where
  pub going : old.is_failed ≡ false
  pub layout_is : old.layout ≡ Two
  pub other : state_of old.state.branches xid ≡ Some Prepared → ⊥
  pub same : IsUnchanged old new

-- the active half is of layout 1, until a checkpoint is written
pub record IsOfOld (old new : Shown) : Type 0 where
  pub going : old.is_failed ≡ false
  pub layout_is : old.layout ≡ One
  pub same : IsUnchanged old new

-- out of memory, before any device call
pub record FindsNoMemory (old : Shown) (xid : List ℕ) (new : Shown) : Type 0 where
  pub may : MayDecide old xid
  pub same : IsUnchanged old new

-- the device failed in this call, whose record was begun: a crash leaves it or not
pub record FailsDeciding (old : Shown) (xid : List ℕ) (d : Decision) (new : Shown) : Type 0 where
  pub may : MayDecide old xid
  pub name : new.name ≡ old.name
  pub state : new.state ≡ old.state
  pub layout : new.layout ≡ old.layout
  pub room : new.room ≡ old.room
  pub faults : new.disk.faults ≡ old.disk.faults + 1
  pub failed : new.is_failed ≡ true
  pub begun : new.made ≡ with_begun old.made ((entry_of (heuristic xid d) ∷ []) ∷ [])

-- the device failed before: nothing is done
pub record IsClosed (old new : Shown) : Type 0 where
  pub failed : old.is_failed ≡ true
  pub same : IsUnchanged old new

abbrev pub Decides : List ℕ → Decision → Decided → Shown → Shown → Type 0
Decides xid d Done old new = IsDecided old xid d new
Decides xid d NotInDoubt old new = IsNotInDoubt old xid new
Decides xid d OldLayout old new = IsOfOld old new
Decides xid d NoMemory old new = FindsNoMemory old xid new
Decides xid d DeviceFailed old new = FailsDeciding old xid d new
Decides xid d Closed old new = IsClosed old new
