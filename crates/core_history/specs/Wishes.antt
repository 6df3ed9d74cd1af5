-- How what conversations wait to ask is listed where it is done together with what others ask.
use Rattle.std.specs.Prelude.{ℕ, Bool, if◌then◌else◌}
use Rattle.core_calls.specs.Answer.{Answer, device_failed}
use Rattle.core_model.specs.Step.{Kept, Taken}
use Rattle.unit_records.specs.Together.{answer_for, call_for}
use Rattle.unit_records.specs.declared.group_call.Asked.{Asked}
use Rattle.serializability.specs.Answered.{AnsweredCall}

-- what it is answered, where the device may have failed
abbrev pub answer_wished : Asked → Bool → Answer
answer_wished w has_failed = if has_failed then device_failed else answer_for w

-- how it is listed
abbrev pub listed_wish : ℕ → Asked → Bool → AnsweredCall
listed_wish conversation w has_failed = record { conversation = conversation; call = call_for w; mark = if has_failed then Kept else Taken; answer = answer_wished w has_failed }
