-- What a checkpoint makes of a core: nothing but its disk and the room of its journal changes.
use Rattle.std.specs.Prelude.{◌≡◌, ◌+◌, ◌<◌, ℕ, Bool, IsTrue, true, false, length, map, Result, Ok, Err}
use Rattle.drda_disk.specs.Disk.{Stays}
use Rattle.half_store.specs.Layout.{half_len}
use Rattle.half_store.specs.declared.header.Layout.TheVariants.{Two}
use Rattle.row_pages.specs.Laying.{counted}
use Rattle.unit_records.specs.Records.{entry_of}
use Rattle.store_check.specs.Room.{need_of}
use Rattle.recovery.specs.Laws.{held_for}
use Rattle.recovery.specs.Laying.{records_of}
use Rattle.recovery.specs.Journaled.{FaultsAfter, IsUnchanged, Shown}
use Rattle.recovery.specs.Part.{durable_part}
use Rattle.journal_recorder.specs.declared.checkpointing.CheckpointError.{CheckpointError}
use Rattle.journal_recorder.specs.declared.checkpointing.CheckpointError.TheVariants as error
use Rattle.durable_core.specs.declared.checkpointing.Checkpointed.{Checkpointed}
use Rattle.durable_core.specs.declared.checkpointing.Checkpointed.TheVariants.{Closed, DeviceFailed, Done, Full, NoMemory}

-- its name, its state and its records stay
pub record IsSameCore (old new : Shown) : Type 0 where
  pub name : new.name ≡ old.name
  pub state : new.state ≡ old.state
  pub made : new.made ≡ old.made

-- the bytes of a half that the checkpoint of a core takes, which is of layout 2
abbrev pub need_for : Shown → ℕ
need_for s = need_of s.state.base.store (map entry_of (records_of (durable_part s.state).doubts)) (held_for Two (durable_part s.state).doubts)

abbrev pub half_bytes_for : Shown → ℕ
half_bytes_for s = half_len (length s.disk.seen)

-- It is there, of layout 2. Where the device gives back what was written, the room behind it is what it leaves of a half: so it fits
-- there.
pub record IsLaid (modelled : Bool) (old new : Shown) : Type 0 where
  pub going : old.is_failed ≡ false
  pub still : new.is_failed ≡ false
  pub layout : new.layout ≡ Two
  pub leaves : IsTrue modelled → new.room + need_for old ≡ half_bytes_for old
  pub faults : new.disk.faults ≡ old.disk.faults

-- it is not, and the core goes on as before
pub record GoesOn (old new : Shown) : Type 0 where
  pub going : old.is_failed ≡ false
  pub still : new.is_failed ≡ false
  pub layout : new.layout ≡ old.layout
  pub room : new.room ≡ old.room
  pub faults : new.disk.faults ≡ old.disk.faults

-- A half is too short for it. How many bytes it takes is told, up to the greatest number of 64 bits, and how many a half has;
-- nothing was written.
pub record LacksRoom (old new : Shown) (need room : ℕ) : Type 0 where
  pub less : half_bytes_for old < need_for old
  pub needed : need ≡ counted (need_for old)
  pub has : room ≡ half_bytes_for old
  pub unwritten : Stays old.disk new.disk

-- the device failed, or gave what is no page; which half is the active one then shows when the store is opened again
pub record FailsHere (modelled : Bool) (old new : Shown) : Type 0 where
  pub going : old.is_failed ≡ false
  pub failed : new.is_failed ≡ true
  pub layout : new.layout ≡ old.layout
  pub room : new.room ≡ old.room
  pub faults : FaultsAfter modelled true old.disk.faults new.disk.faults

-- it had failed before
pub record WasClosed (old new : Shown) : Type 0 where
  pub failed : old.is_failed ≡ true
  pub same : IsUnchanged old new

abbrev pub Becomes : Bool → Checkpointed → Shown → Shown → Type 0
Becomes modelled Done old new = IsLaid modelled old new
Becomes modelled (Full need room) old new = GoesOn old new × (IsTrue modelled → LacksRoom old new need room)
Becomes modelled NoMemory old new = GoesOn old new
Becomes modelled DeviceFailed old new = FailsHere modelled old new
Becomes modelled Closed old new = WasClosed old new

pub record Checkpoints (modelled : Bool) (told : Checkpointed) (old new : Shown) : Type 0 where
  pub same : IsSameCore old new
  pub becomes : Becomes modelled told old new

-- ---- in code

-- what is told of a checkpoint that was written, or was not
abbrev pub told_of : {T : Type 0} → Result T CheckpointError → Checkpointed
told_of (Ok x) = Done
told_of (Err error.NoMemory) = NoMemory
told_of (Err (error.Full need room)) = Full need room
told_of (Err error.DeviceFailed) = DeviceFailed
