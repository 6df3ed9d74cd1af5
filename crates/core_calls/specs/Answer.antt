-- What the core answers.
use Rattle.std.specs.Prelude.{ℕ, List}
use Rattle.row_values.specs.Column.{Column}
use Rattle.tables.specs.RowList.{RowList}
use Rattle.xa_calls.specs.declared.code.XaCode.{XaCode}
use Rattle.core_calls.specs.declared.described.ParameterType.{ParameterType}
use Rattle.core_calls.specs.declared.refusal.Refusal.{Refusal}
use Rattle.core_calls.specs.declared.answer.Answer.{Answer as CodeAnswer}
use Rattle.core_calls.specs.declared.answer.Answer.TheVariants as code
use Rattle.core_calls.specs.Described.{columns_of}

pub data Answer : Type 0 where
  -- so many rows were concerned
  count : ℕ → Answer
  rows : RowList → Answer
  output : List Column → Answer
  input : List ParameterType → Answer
  done : Answer
  refused : Refusal → Answer
  in_global : Answer
  xa : XaCode → Answer
  -- by the bytes of XIDs
  in_doubt : List (List ℕ) → Answer
  no_memory : Answer
  -- the bytes that a record needs, and those that are left
  full : ℕ → ℕ → Answer
  device_failed : Answer
  closed : Answer

abbrev pub answer_of : CodeAnswer → Answer
answer_of (code.Count n) = count n
answer_of (code.Rows l) = rows l
answer_of (code.Output c) = output (columns_of c)
answer_of (code.Input types) = input types
answer_of code.Done = done
answer_of (code.Refused r) = refused r
answer_of code.InGlobal = in_global
answer_of (code.Xa c) = xa c
answer_of (code.InDoubt xids) = in_doubt xids
answer_of code.NoMemory = no_memory
answer_of (code.Full need room) = full need room
answer_of code.DeviceFailed = device_failed
answer_of code.Closed = closed
