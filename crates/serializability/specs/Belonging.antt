-- Which answers belong to which call. One that does not is another call's answer, or an excuse.
use Rattle.std.specs.Prelude.{◌≡◌, ◌⊎◌, ℕ, Bool, true, false, List, Option, Some, None}
use Rattle.row_values.specs.Column.{Column}
use Rattle.tables.specs.RowList.{RowList}
use Rattle.xa_calls.specs.declared.code.XaCode.{XaCode}
use Rattle.xa_calls.specs.declared.request.Request.{Request}
use Rattle.xa_calls.specs.declared.request.Request.TheVariants as request
use Rattle.core_calls.specs.Call as call
use Rattle.core_calls.specs.Call.{Call}
use Rattle.core_calls.specs.Answer.{Answer, closed, count, device_failed, done, full, in_doubt, in_global, input, no_memory, output, refused, rows, xa}
use Rattle.core_calls.specs.declared.call.Side.{Side}
use Rattle.core_calls.specs.declared.call.Side.TheVariants as side
use Rattle.core_calls.specs.declared.described.ParameterType.{ParameterType}
use Rattle.core_calls.specs.declared.refusal.Refusal.{Refusal}
use Rattle.core_model.specs.Step.{CoreState}
use Rattle.core_model.specs.Laws.{answered}

abbrev pub IsRefused : Answer → Type 0
IsRefused answer = (refusal : Refusal) × (answer ≡ refused refusal)

-- a statement that is run tells how many rows it concerned
abbrev pub IsCount : Answer → Type 0
IsCount answer = (n : ℕ) × (answer ≡ count n)

abbrev pub AreRows : Answer → Type 0
AreRows answer = (l : RowList) × (answer ≡ rows l)

-- the columns, or the types of the parameters, and never the other side
abbrev pub IsSide : Side → Answer → Type 0
IsSide side.Output answer = (columns : List Column) × (answer ≡ output columns)
IsSide side.Input answer = (types : List ParameterType) × (answer ≡ input types)

-- a recover is answered by the branches in doubt, every other XA call by its code
abbrev pub IsXaAnswer : Option Request → Answer → Type 0
IsXaAnswer (Some request.Recover) answer = (xids : List (List ℕ)) × (answer ≡ in_doubt xids)
IsXaAnswer (Some (request.Branch verb xid)) answer = (code : XaCode) × (answer ≡ xa code)
IsXaAnswer None answer = (code : XaCode) × (answer ≡ xa code)

-- a commit or a rollback of a conversation is done, or a global unit forbids it; a loss is done
abbrev pub Belongs : Call → Answer → Type 0
Belongs (call.run s params) answer = IsCount answer ⊎ IsRefused answer
Belongs (call.query s params) answer = AreRows answer ⊎ IsRefused answer
Belongs (call.describe s which) answer = IsSide which answer ⊎ IsRefused answer
Belongs call.commit answer = (answer ≡ done) ⊎ (answer ≡ in_global)
Belongs call.roll_back answer = (answer ≡ done) ⊎ (answer ≡ in_global)
Belongs (call.xa r) answer = IsXaAnswer r answer
Belongs call.lost answer = answer ≡ done

-- in place of an answer: the call was not done
abbrev pub is_excuse : Answer → Bool
is_excuse no_memory = true
is_excuse (full need room) = true
is_excuse device_failed = true
is_excuse closed = true
is_excuse _ = false

-- what a step answers belongs to its call, whatever the state
abbrev pub AnswersBelong : Type 0
AnswersBelong = (s : CoreState) (conversation : ℕ) (k : Call) → Belongs k (answered s conversation k)

-- and no excuse belongs to any call
abbrev pub ExcusesBelongToNone : Type 0
ExcusesBelongToNone = (k : Call) (answer : Answer) → is_excuse answer ≡ true → Belongs k answer → ⊥
