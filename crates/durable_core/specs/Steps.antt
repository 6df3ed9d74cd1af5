-- What a call makes of a core whose units are recorded on a disk.
use Rattle.std.specs.Prelude.{◌≡◌, ◌⊎◌, ℕ, ◌+◌, ◌-◌, ◌^◌, ◌<◌, Bool, min, true, false, List, [], ◌∷◌, Option, Some, None}
use Rattle.half_store.specs.declared.header.Layout.{Layout}
use Rattle.unit_journal.specs.Record.{Entry}
use Rattle.unit_records.specs.MadeRecords.{with_begun, with_done}
use Rattle.unit_records.specs.Records.{UnitRecord, entry_of}
use Rattle.unit_records.specs.Room.{held, released, taken}
use Rattle.core_calls.specs.Call.{Call, lost}
use Rattle.core_calls.specs.Answer.{Answer, closed, device_failed, full, no_memory}
use Rattle.core_model.specs.Misread.{Misreads, reads_rows}
use Rattle.core_model.specs.Step.{CoreState, answer, step_state}
use Rattle.unit_records.specs.Due.{record_due}
use Rattle.recovery.specs.Journaled.{FaultsAfter, IsRead, IsUnchanged, IsUntouched, Shown}
use Rattle.rdb_core.specs.Steps.{may_want_any}

-- what a record makes of the room
abbrev pub RoomAfter : Layout → Option UnitRecord → ℕ → ℕ → Type 0
RoomAfter layout None old new = new ≡ old
RoomAfter layout (Some r) old new = new + (taken r + held layout r) ≡ old + released layout r

-- the group of the record that is due, as the journal has it
abbrev pub due_groups : Option UnitRecord → List (List Entry)
due_groups None = []
due_groups (Some r) = (entry_of r ∷ []) ∷ []

-- the answer and the state behind it are those of the step
pub record IsTaken (old : Shown) (conversation : ℕ) (k : Call) (told : Answer) (new : Shown) : Type 0 where
  pub going : old.is_failed ≡ false
  pub answer_is : told ≡ answer old.state.branches old.state.base conversation k
  pub state : new.state ≡ step_state old.state conversation k
  pub layout : new.layout ≡ old.layout
  pub room : RoomAfter old.layout (record_due old.state conversation k) old.room new.room
  pub faults : new.disk.faults ≡ old.disk.faults
  pub still : new.is_failed ≡ false
  pub made : new.made ≡ with_done old.made (due_groups (record_due old.state conversation k))

-- The device, which need not give back what was written, gave other rows of the tables: the answer and the units are those of
-- the step over them. What is committed stays.
pub record ReadsOthers (modelled : Bool) (old : Shown) (conversation : ℕ) (k : Call) (told : Answer) (new : Shown) : Type 0 where
  pub untold : modelled ≡ false
  pub going : old.is_failed ≡ false
  pub misread : Misreads old.state conversation k told new.state
  pub layout : new.layout ≡ old.layout
  pub room : new.room ≡ old.room
  pub faults : new.disk.faults ≡ old.disk.faults
  pub still : new.is_failed ≡ false
  pub made : new.made ≡ old.made

-- ---- excuses: all else stays

-- a call may want memory: by what it does, or since a record of it is due
abbrev pub MayWantMemory : CoreState → ℕ → Call → Type 0
MayWantMemory s conversation k = (may_want_any s conversation k ≡ true) ⊎ (record_due s conversation k ≡ None → ⊥)

-- out of memory, before any device call but those that read rows for a statement
pub record FindsNoMemory (old : Shown) (conversation : ℕ) (k : Call) (told : Answer) (new : Shown) : Type 0 where
  pub going : old.is_failed ≡ false
  pub wanting : MayWantMemory old.state conversation k
  pub answer_is : told ≡ no_memory
  pub same : IsRead old new
  pub untouched : reads_rows k ≡ false → IsUntouched old.disk new.disk

-- the record that is due, and what it holds back, are longer than the room and what it releases
pub record FindsNoRoom (old : Shown) (conversation : ℕ) (k : Call) (told : Answer) (new : Shown) : Type 0 where
  pub going : old.is_failed ≡ false
  pub record_is : UnitRecord
  pub due : record_due old.state conversation k ≡ Some record_is
  pub answer_is : told ≡ full (min (taken record_is + held old.layout record_is - released old.layout record_is) (2 ^ 64 - 1)) old.room
  pub less : old.room + released old.layout record_is < taken record_is + held old.layout record_is
  pub same : IsUnchanged old new

-- the device failed in this call, whose record was begun: a crash leaves it or not
pub record FailsHere (old : Shown) (conversation : ℕ) (k : Call) (told : Answer) (new : Shown) : Type 0 where
  pub going : old.is_failed ≡ false
  pub record_is : UnitRecord
  pub due : record_due old.state conversation k ≡ Some record_is
  pub answer_is : told ≡ device_failed
  pub name : new.name ≡ old.name
  pub state : new.state ≡ old.state
  pub layout : new.layout ≡ old.layout
  pub room : new.room ≡ old.room
  pub faults : new.disk.faults ≡ old.disk.faults + 1
  pub failed : new.is_failed ≡ true
  pub begun : new.made ≡ with_begun old.made ((entry_of record_is ∷ []) ∷ [])

-- The device failed as rows were read for a statement; or it gave what is no page and no row, as only one may that need not give
-- back what was written. No record was due.
pub record FailsToRead (modelled : Bool) (old : Shown) (conversation : ℕ) (k : Call) (told : Answer) (new : Shown) : Type 0 where
  pub going : old.is_failed ≡ false
  pub reading : reads_rows k ≡ true
  pub answer_is : told ≡ device_failed
  pub name : new.name ≡ old.name
  pub state : new.state ≡ old.state
  pub layout : new.layout ≡ old.layout
  pub room : new.room ≡ old.room
  pub faults : FaultsAfter modelled true old.disk.faults new.disk.faults
  pub failed : new.is_failed ≡ true
  pub made : new.made ≡ old.made

-- the device failed before: nothing is done
pub record IsClosed (old : Shown) (told : Answer) (new : Shown) : Type 0 where
  pub failed : old.is_failed ≡ true
  pub answer_is : told ≡ closed
  pub same : IsUnchanged old new

abbrev pub IsExcused : Bool → Shown → ℕ → Call → Answer → Shown → Type 0
IsExcused modelled old conversation k told new =
    FindsNoMemory old conversation k told new ⊎ (FindsNoRoom old conversation k told new ⊎ (FailsHere old conversation k told new ⊎ (FailsToRead modelled old conversation k told new ⊎ IsClosed old told new)))

abbrev pub Steps : Bool → Shown → ℕ → Call → Answer → Shown → Type 0
Steps modelled old conversation k told new = IsTaken old conversation k told new ⊎ (ReadsOthers modelled old conversation k told new ⊎ IsExcused modelled old conversation k told new)

-- a loss makes no record and takes no memory
abbrev pub Loses : Shown → ℕ → Answer → Shown → Type 0
Loses old conversation told new = IsTaken old conversation lost told new ⊎ IsClosed old told new
