-- Who is asked: the core, for one conversation, which it knows by its place in the row. What a conversation
-- leaves unfinished goes with it when it is lost, so that another one may have its place.
use Rattle.std.specs.Prelude.{◌≡◌, ◌⊎◌, ℕ, ◌+◌, ◌-◌, ◌^◌, ◌<◌, min, Bool, true, false, List, [], ◌∷◌, ◌++◌, Some}
use Rattle.drda_disk.specs.Disk.{Life}
use Rattle.half_store.specs.declared.header.Layout.{Layout}
use Rattle.unit_records.specs.MadeRecords.{MadeRecords, with_begun, with_done}
use Rattle.unit_records.specs.Records.{UnitRecord, entry_of}
use Rattle.unit_records.specs.Room.{held, released, taken}
use Rattle.core_calls.specs.Call as call
use Rattle.core_calls.specs.Call.{Call}
use Rattle.core_calls.specs.Answer.{Answer, closed, device_failed, full, no_memory}
use Rattle.core_model.specs.Misread.{Misreads, reads_rows}
use Rattle.core_model.specs.Step.{CoreState, Kept, Mark, Taken, answer as answer_to, step_state}
use Rattle.serializability.specs.Answered.{AnsweredCall}
use Rattle.unit_records.specs.Due.{record_due}
use Rattle.recovery.specs.Journaled.{Journaled, OnDisk, shown_on}
use Rattle.durable_core.specs.Steps.{MayWantMemory, RoomAfter, due_groups}
use Rattle.drda_node.specs.declared.asker.CoreAsker.{CoreAsker}

-- what a core is to those who ask it: whether its device gives back what was written, its state, its store's layout, the bytes that
-- are left for records, whether the device has failed, the records of its calls so far: those that were made, and those that
-- were begun in the call in which the device failed; and the calls, each with what it was answered
pub record AskedCore : Type 0 where
  pub is_told : Bool
  pub state : CoreState
  pub layout : Layout
  pub room : ℕ
  pub has_failed : Bool
  pub made : MadeRecords
  pub calls : List AnsweredCall

-- the calls so far and this one, which was asked of that core
abbrev pub noted : Mark → AskedCore → ℕ → Call → Answer → List AnsweredCall
noted mark old place call answer = old.calls ++ record { conversation = place; call = call; mark = mark; answer = answer } ∷ []

-- the answer and the state behind it are those of the step; a record that was due is in the room
pub record IsTaken (old : AskedCore) (place : ℕ) (call : Call) (answer : Answer) (new : AskedCore) : Type 0 where
  pub told : new.is_told ≡ old.is_told
  pub going : old.has_failed ≡ false
  pub answer_is : answer ≡ answer_to old.state.branches old.state.base place call
  pub state : new.state ≡ step_state old.state place call
  pub layout : new.layout ≡ old.layout
  pub room : RoomAfter old.layout (record_due old.state place call) old.room new.room
  pub still : new.has_failed ≡ false
  pub made : new.made ≡ with_done old.made (due_groups (record_due old.state place call))
  pub calls : new.calls ≡ noted Taken old place call answer

-- The device, which need not give back what was written, gave other rows of the tables to a statement: the answer and the units
-- are those of the step over them. What is committed stays.
pub record ReadsOthers (old : AskedCore) (place : ℕ) (call : Call) (answer : Answer) (new : AskedCore) : Type 0 where
  pub untold : old.is_told ≡ false
  pub going : old.has_failed ≡ false
  pub misread : Misreads old.state place call answer new.state
  pub rest : new ≡ record old { state = new.state; calls = noted Taken old place call answer }

-- ---- excuses: the call is not done, and is noted so

-- out of memory, of a call that may want some
pub record FindsNoMemory (old : AskedCore) (place : ℕ) (call : Call) (answer : Answer) (new : AskedCore) : Type 0 where
  pub going : old.has_failed ≡ false
  pub wanting : MayWantMemory old.state place call
  pub answer_is : answer ≡ no_memory
  pub same : new ≡ record old { calls = noted Kept old place call answer }

-- the record that is due, and what it holds back, are longer than the room and what it releases
pub record FindsNoRoom (old : AskedCore) (place : ℕ) (call : Call) (answer : Answer) (new : AskedCore) : Type 0 where
  pub going : old.has_failed ≡ false
  pub record_is : UnitRecord
  pub due : record_due old.state place call ≡ Some record_is
  pub answer_is : answer ≡ full (min (taken record_is + held old.layout record_is - released old.layout record_is) (2 ^ 64 - 1)) old.room
  pub less : old.room + released old.layout record_is < taken record_is + held old.layout record_is
  pub same : new ≡ record old { calls = noted Kept old place call answer }

-- the device failed where the call's record was to be made, which was begun
pub record FailsHere (old : AskedCore) (place : ℕ) (call : Call) (answer : Answer) (new : AskedCore) : Type 0 where
  pub told : new.is_told ≡ old.is_told
  pub going : old.has_failed ≡ false
  pub record_is : UnitRecord
  pub due : record_due old.state place call ≡ Some record_is
  pub answer_is : answer ≡ device_failed
  pub state : new.state ≡ old.state
  pub layout : new.layout ≡ old.layout
  pub room : new.room ≡ old.room
  pub failed : new.has_failed ≡ true
  pub begun : new.made ≡ with_begun old.made ((entry_of record_is ∷ []) ∷ [])
  pub calls : new.calls ≡ noted Kept old place call answer

-- the device failed where rows were read for a statement; no record was due
pub record FailsToRead (old : AskedCore) (place : ℕ) (call : Call) (answer : Answer) (new : AskedCore) : Type 0 where
  pub going : old.has_failed ≡ false
  pub reading : reads_rows call ≡ true
  pub answer_is : answer ≡ device_failed
  pub same : new ≡ record old { has_failed = true; calls = noted Kept old place call answer }

-- it had failed before
pub record IsClosed (old : AskedCore) (place : ℕ) (call : Call) (answer : Answer) (new : AskedCore) : Type 0 where
  pub failed : old.has_failed ≡ true
  pub answer_is : answer ≡ closed
  pub same : new ≡ record old { calls = noted Kept old place call answer }

abbrev pub IsExcused : AskedCore → ℕ → Call → Answer → AskedCore → Type 0
IsExcused old place call answer new =
    FindsNoMemory old place call answer new ⊎ (FindsNoRoom old place call answer new ⊎ (FailsHere old place call answer new ⊎ (FailsToRead old place call answer new ⊎ IsClosed old place call answer new)))

-- The core takes the step of this conversation's call, and answers it. Only of a device that need not give back what was written
-- it may be the step over other rows.
abbrev pub asks : ℕ → AskedCore → Call → Answer → AskedCore → Type 0
asks place old call answer new = IsTaken old place call answer new ⊎ (ReadsOthers old place call answer new ⊎ IsExcused old place call answer new)

-- what is left of the core where a conversation is lost: its units end, and no record is due of that; once the device
-- has failed nothing is done
abbrev pub left_of : Bool → AskedCore → ℕ → AskedCore
left_of true old place = record old { calls = noted Kept old place call.lost closed }
left_of false old place = record old {
  state = step_state old.state place call.lost;
  calls = noted Taken old place call.lost (answer_to old.state.branches old.state.base place call.lost);
}

abbrev pub left_by : AskedCore → ℕ → AskedCore
left_by old place = left_of old.has_failed old place

-- ---- in code

-- a core of which these calls were asked
abbrev pub asked_after : {D : Type 0} → Bool → List AnsweredCall → OnDisk D → AskedCore
asked_after is_told calls s = record { is_told = is_told; state = s.state; layout = s.layout; room = s.room; has_failed = s.is_failed; made = s.made; calls = calls }

-- nothing was asked of it so far
abbrev pub asked_of : {D : Type 0} → Bool → OnDisk D → AskedCore
asked_of is_told s = asked_after is_told [] s

abbrev pub core_of : {D : Type 0} → Bool → CoreAsker D → AskedCore
core_of is_told asker = asked_after is_told asker.calls.now.listed asker.core.now

-- the same core is asked for the same conversation afterwards, and noted in the same list
pub record IsSameAsker {D : Type 0} (old new : CoreAsker D) : Type 0 where
  pub core : new.core.ghost_name ≡ old.core.ghost_name
  pub calls : new.calls.ghost_name ≡ old.calls.ghost_name
  pub conversation : new.conversation ≡ old.conversation

-- what the device does, of any disk, and what a crash leaves, where the disk gives back what was written
abbrev pub IsJournaled : {D : Type 0} → Bool → (D → Life) → OnDisk D → OnDisk D → Type 0
IsJournaled modelled life old new = Journaled modelled (shown_on life old) (shown_on life new)

abbrev pub asks_of : {D : Type 0} → Bool → (D → Life) → CoreAsker D → Call → Answer → CoreAsker D → Type 0
asks_of modelled life old call answer new =
    IsSameAsker old new × asks old.conversation (core_of modelled old) call answer (core_of modelled new) × IsJournaled modelled life old.core.now new.core.now
