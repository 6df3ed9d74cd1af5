-- Which record a call makes due: it is made before what it says, and before the call is answered.
use Rattle.std.specs.Prelude.{ℕ, List, [], ◌∷◌, Option, Some, None}
use Rattle.tables.specs.Change.{Change}
use Rattle.xa_calls.specs.declared.request.Request.{Request}
use Rattle.xa_calls.specs.declared.request.Request.TheVariants as request
use Rattle.xa_manager.specs.declared.branch.Branch.{Branch}
use Rattle.xa_manager.specs.declared.due.Action.{Action}
use Rattle.xa_manager.specs.declared.due.Action.TheVariants as action
use Rattle.xa_manager.specs.Branch.{joined_xid}
use Rattle.core_calls.specs.Call as call
use Rattle.core_calls.specs.Call.{Call}
use Rattle.core_model.specs.Units.{Work, global, local, unit_of}
use Rattle.core_model.specs.Events.{Base}
use Rattle.core_model.specs.Step.{CoreState, due_in, unless_joined}
use Rattle.unit_records.specs.Records.{UnitRecord, committed, decided, forgotten, prepared}

-- a commit's record; a unit that has changed nothing needs none
abbrev pub commit_due : List Change → Option UnitRecord
commit_due [] = None
commit_due (change ∷ changes) = Some (committed (change ∷ changes))

-- what is done of an XID's branch; a branch that was never prepared is rolled back without one
abbrev pub action_due : List ℕ → Work → Action → Option UnitRecord
action_due xid unit action.Nothing = None
action_due xid unit action.Start = None
action_due xid unit action.Join = None
action_due xid unit (action.End ending) = None
action_due xid unit action.Prepare = Some (prepared xid unit.changes unit.claims)
action_due xid unit action.EndUnchanged = commit_due unit.changes
action_due xid unit action.CommitOnePhase = commit_due unit.changes
action_due xid unit (action.Decide decision) = Some (decided xid decision)
action_due xid unit action.RollBack = None
action_due xid unit action.Forget = Some (forgotten xid)

abbrev pub xa_due : List Branch → Base → ℕ → Option Request → Option UnitRecord
xa_due branches b conversation (Some (request.Branch verb xid)) = action_due xid (unit_of (global xid) b.units) (due_in branches b conversation verb xid).action
xa_due branches b conversation (Some request.Recover) = None
xa_due branches b conversation None = None

-- of a call of a conversation
abbrev pub record_due : CoreState → ℕ → Call → Option UnitRecord
record_due s conversation call.commit = unless_joined (joined_xid s.branches conversation) (commit_due (unit_of (local conversation) s.base.units).changes) None
record_due s conversation (call.xa r) = xa_due s.branches s.base conversation r
record_due s conversation (call.run t params) = None
record_due s conversation (call.query t params) = None
record_due s conversation (call.describe t side) = None
record_due s conversation call.roll_back = None
record_due s conversation call.lost = None
