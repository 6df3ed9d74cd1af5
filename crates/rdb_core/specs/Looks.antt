-- A statement reads rows of the committed tables before its step is taken.
use Rattle.std.specs.Prelude.{◌≡◌, ◌⊎◌, ℕ, Bool, true, false, Err}
use Rattle.ahead_view.specs.Source.{LeavesReader}
use Rattle.ahead_view.specs.declared.source.ReadError.{ReadError}
use Rattle.ahead_view.specs.declared.source.ReadError.TheVariants as error
use Rattle.unit_records.specs.Records.{UnitRecord}
use Rattle.unit_records.specs.declared.record_error.RecordError.{RecordError}
use Rattle.core_calls.specs.Call as call
use Rattle.core_calls.specs.Call.{Call}
use Rattle.core_calls.specs.Answer.{Answer, device_failed, no_memory}
use Rattle.core_model.specs.Misread.{Misreads, reads_rows}
use Rattle.core_model.specs.Asked.{Clashes, Question, describing, querying, running}
use Rattle.core_model.specs.Events.{asked_of}
use Rattle.core_model.specs.Step.{CoreState, owner_of}
use Rattle.rdb_core.specs.Steps.{IsTaken, Steps}

-- the call that asks it
abbrev pub call_asking : Question → Call
call_asking (running t params) = call.run t params
call_asking (querying t params) = call.query t params
call_asking (describing t side) = call.describe t side

-- some claim of a statement clashes with one of another unit: it reads nothing
abbrev pub IsClashing : CoreState → ℕ → Call → Type 0
IsClashing s conversation (call.run t params) = asked_of s.base (owner_of s.branches conversation) (running t params) ≡ Clashes
IsClashing s conversation (call.query t params) = asked_of s.base (owner_of s.branches conversation) (querying t params) ≡ Clashes
IsClashing s conversation _ = ⊥

-- what is answered where no rows were read
abbrev pub unread_answer : ReadError → Answer
unread_answer error.NoMemory = no_memory
unread_answer error.DeviceFailed = device_failed

-- rows were read, and the step is taken; where it is not known that what is read is what was written, it may be the step over
-- other rows of the same tables
pub record TakesRead {R : Type 0} (is_told : Bool) (reads : R → R → Type 0) (old : CoreState) (conversation : ℕ) (k : Call) (told : Answer) (new : CoreState) (before after : R) : Type 0 where
  pub step : IsTaken old conversation k told new ⊎ ((is_told ≡ false) × Misreads old conversation k told new)
  pub read : reads before after

-- memory was refused once something was read, or the device failed in the read: the core is as it was
pub record ReadsInVain {R : Type 0} (reads fails_to_read : R → R → Type 0) (old : CoreState) (told : Answer) (new : CoreState) (before after : R) : Type 0 where
  pub error : ReadError
  pub answer_is : told ≡ unread_answer error
  pub state : new ≡ old
  pub read : LeavesReader {A = Unit {0}} reads fails_to_read before (Err error) after

abbrev pub Looks : {R : Type 0} → Bool → (R → R → Type 0) → (R → R → Type 0) → CoreState → ℕ → Call → Answer → CoreState → R → R → Type 0
Looks is_told reads fails_to_read old conversation k told new before after =
    TakesRead is_told reads old conversation k told new before after ⊎ ReadsInVain reads fails_to_read old told new before after

-- a call is a step over tables whose rows are read
abbrev pub StepsOver : {R : Type 0} → Bool → (R → UnitRecord → R → Type 0) → (R → UnitRecord → RecordError → R → Type 0) → (R → R → Type 0) → (R → R → Type 0) → CoreState → ℕ → Call → Answer → CoreState → R → R → Type 0
StepsOver is_told records fails reads fails_to_read old conversation k told new before after =
    Steps records fails old conversation k told new before after ⊎ ((reads_rows k ≡ true) × Looks is_told reads fails_to_read old conversation k told new before after)
