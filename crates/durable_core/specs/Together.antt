-- What calls that are made together make of a core whose units are recorded on a disk.
use Rattle.std.specs.Prelude.{◌≡◌, ◌+◌, true, false, List, [], ◌∷◌, map}
use Rattle.unit_records.specs.MadeRecords.{with_begun, with_done}
use Rattle.unit_records.specs.Records.{UnitRecord, entry_of}
use Rattle.unit_records.specs.Room.{held_by, released_by, taken_by}
use Rattle.unit_records.specs.Together.{AreTaken, all_made, may_make, records_of}
use Rattle.unit_records.specs.declared.group_call.GroupCall.{GroupCall}
use Rattle.recovery.specs.Journaled.{IsUnchanged, Shown}
use Rattle.durable_core.specs.declared.together.Together.{Together}
use Rattle.durable_core.specs.declared.together.Together.TheVariants.{Alone, Closed, DeviceFailed, Done}

-- the records of these calls
abbrev pub records_by : Shown → List GroupCall → List UnitRecord
records_by old cs = records_of old.state.base.units cs

-- Each was made, one after another, and is answered that it was done in its turn. Their records were made in one group.
pub record AreMade (old : Shown) (cs : List GroupCall) (new : Shown) : Type 0 where
  pub going : old.is_failed ≡ false
  pub may : may_make old.state cs ≡ true
  pub taken : AreTaken old.state.base.units cs old.state
  pub name : new.name ≡ old.name
  pub state : new.state ≡ all_made cs old.state
  pub layout : new.layout ≡ old.layout
  pub room : new.room + (taken_by (records_by old cs) + held_by old.layout (records_by old cs)) ≡ old.room + released_by old.layout (records_by old cs)
  pub faults : new.disk.faults ≡ old.disk.faults
  pub still : new.is_failed ≡ false
  pub made : new.made ≡ with_done old.made (map entry_of (records_by old cs) ∷ [])

-- nothing was done: each may go alone
pub record MayGoAlone (old new : Shown) : Type 0 where
  pub going : old.is_failed ≡ false
  pub same : IsUnchanged old new

-- the device failed as their records were made, which were begun: a crash leaves all of them or none
pub record FailTogether (old : Shown) (cs : List GroupCall) (new : Shown) : Type 0 where
  pub going : old.is_failed ≡ false
  pub may : may_make old.state cs ≡ true
  pub name : new.name ≡ old.name
  pub state : new.state ≡ old.state
  pub layout : new.layout ≡ old.layout
  pub room : new.room ≡ old.room
  pub faults : new.disk.faults ≡ old.disk.faults + 1
  pub failed : new.is_failed ≡ true
  pub begun : new.made ≡ with_begun old.made (map entry_of (records_by old cs) ∷ [])

-- the device failed before: nothing is done
pub record AreClosed (old new : Shown) : Type 0 where
  pub failed : old.is_failed ≡ true
  pub same : IsUnchanged old new

abbrev pub MakeTogether : Shown → List GroupCall → Together → Shown → Type 0
MakeTogether old cs Done new = AreMade old cs new
MakeTogether old cs Alone new = MayGoAlone old new
MakeTogether old cs DeviceFailed new = FailTogether old cs new
MakeTogether old cs Closed new = AreClosed old new
