-- What becomes of the recorder: the record that is due is made, or is refused.
use Rattle.std.specs.Prelude.{◌≡◌, ◌⊎◌, Option, Some, None}
use Rattle.unit_records.specs.Records.{UnitRecord}
use Rattle.unit_records.specs.declared.record_error.RecordError.{RecordError}
use Rattle.unit_records.specs.declared.record_error.RecordError.TheVariants as error
use Rattle.core_calls.specs.Answer.{Answer, device_failed, full, no_memory}

-- the record that is due is made; where none is, the recorder stays
abbrev pub IsRecorded : {R : Type 0} → (R → UnitRecord → R → Type 0) → Option UnitRecord → R → R → Type 0
IsRecorded records None before after = after ≡ before
IsRecorded records (Some r) before after = records before r after

-- memory was refused before anything was recorded
pub record IsOutOfMemory {R : Type 0} (fault : RecordError) (before after : R) : Type 0 where
  pub fault_is : fault ≡ error.NoMemory
  pub recorder : after ≡ before

-- the record that is due was refused
pub record IsRefused {R : Type 0} (fails : R → UnitRecord → RecordError → R → Type 0) (due : Option UnitRecord) (fault : RecordError) (before after : R) : Type 0 where
  pub record_is : UnitRecord
  pub due_is : due ≡ Some record_is
  pub failed : fails before record_is fault after

abbrev pub Refuses : {R : Type 0} → (R → UnitRecord → RecordError → R → Type 0) → Option UnitRecord → RecordError → R → R → Type 0
Refuses fails due fault before after = IsOutOfMemory fault before after ⊎ IsRefused fails due fault before after

-- what is answered then
abbrev pub refusal_answer : RecordError → Answer
refusal_answer error.NoMemory = no_memory
refusal_answer (error.Full need room) = full need room
refusal_answer error.DeviceFailed = device_failed
