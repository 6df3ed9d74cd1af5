-- A call takes the core one step, and makes the record that is due; else the core stays as it is.
use Rattle.std.specs.Prelude.{◌≡◌, ◌⊎◌, ℕ, Bool, true, false, List, [], ◌∷◌, Option, Some, None}
use Rattle.tables.specs.Change.{Change}
use Rattle.xa_calls.specs.declared.request.Request.{Request}
use Rattle.xa_calls.specs.declared.request.Request.TheVariants as request
use Rattle.xa_manager.specs.declared.due.Action.{Action}
use Rattle.xa_manager.specs.declared.due.Action.TheVariants as action
use Rattle.xa_manager.specs.declared.due.Decision.TheVariants as decided
use Rattle.unit_records.specs.Records.{UnitRecord}
use Rattle.unit_records.specs.Due.{record_due}
use Rattle.unit_records.specs.declared.record_error.RecordError.{RecordError}
use Rattle.core_calls.specs.Call as call
use Rattle.core_calls.specs.Call.{Call}
use Rattle.core_calls.specs.Answer.{Answer}
use Rattle.core_model.specs.Units.{Held, global, has_any, local, unit_of, without}
use Rattle.core_calls.specs.declared.sql_fault.SqlFault.{SqlFault}
use Rattle.core_model.specs.Asked.{describing, querying, running, unfit}
use Rattle.core_model.specs.Step.{CoreState, answer, due_in, step_state}
use Rattle.rdb_core.specs.Recorded.{IsRecorded, Refuses, refusal_answer}

-- the answer and the state behind it are those of the step
pub record IsTaken (old : CoreState) (conversation : ℕ) (k : Call) (told : Answer) (new : CoreState) : Type 0 where
  pub answer_is : told ≡ answer old.branches old.base conversation k
  pub state : new ≡ step_state old conversation k

-- the step is taken, and the record that it makes due is made first
pub record Takes {R : Type 0} (records : R → UnitRecord → R → Type 0) (old : CoreState) (conversation : ℕ) (k : Call) (told : Answer) (new : CoreState) (before after : R) : Type 0 where
  pub taken : IsTaken old conversation k told new
  pub recorded : IsRecorded records (record_due old conversation k) before after

-- out of memory, or where the record that is due is refused: the core is as it was
pub record IsKept {R : Type 0} (fails : R → UnitRecord → RecordError → R → Type 0) (old : CoreState) (conversation : ℕ) (k : Call) (told : Answer) (new : CoreState) (before after : R) : Type 0 where
  pub fault : RecordError
  pub answer_is : told ≡ refusal_answer fault
  pub state : new ≡ old
  pub cause : Refuses fails (record_due old conversation k) fault before after

abbrev pub Steps : {R : Type 0} → (R → UnitRecord → R → Type 0) → (R → UnitRecord → RecordError → R → Type 0) → CoreState → ℕ → Call → Answer → CoreState → R → R → Type 0
Steps records fails old conversation k told new before after =
    Takes records old conversation k told new before after ⊎ IsKept fails old conversation k told new before after

-- what is due may want memory: a branch begins, or changes are committed
abbrev pub wants_memory : Action → List Change → Bool
wants_memory action.Start changes = true
wants_memory action.EndUnchanged changes = has_any changes
wants_memory action.CommitOnePhase changes = has_any changes
wants_memory (action.Decide decided.Commit) changes = has_any changes
wants_memory _ changes = false

-- an XA call may want memory
abbrev pub may_want_memory : CoreState → ℕ → Option Request → Bool
may_want_memory s conversation (Some (request.Branch verb xid)) = wants_memory (due_in s.branches s.base conversation verb xid).action (unit_of (global xid) s.base.units).changes
may_want_memory s conversation (Some request.Recover) = true
may_want_memory s conversation None = false

-- what is refused before it claims anything wants no memory
abbrev pub is_fit : Option SqlFault → Bool
is_fit None = true
is_fit (Some fault) = false

-- a call may want memory: a question that is fit, a commit where the unit has changes
abbrev pub may_want_any : CoreState → ℕ → Call → Bool
may_want_any s conversation (call.run t params) = is_fit (unfit (running t params))
may_want_any s conversation (call.query t params) = is_fit (unfit (querying t params))
may_want_any s conversation (call.describe t side) = is_fit (unfit (describing t side))
may_want_any s conversation call.commit = has_any (unit_of (local conversation) s.base.units).changes
may_want_any s conversation call.roll_back = false
may_want_any s conversation (call.xa r) = may_want_memory s conversation r
may_want_any s conversation call.lost = false

-- the units that are left once those of these XIDs have ended
abbrev pub left_units : List (List ℕ) → List Held → List Held
left_units [] units = units
left_units (x ∷ xs) units = left_units xs (without (global x) units)
