-- The core's one step: what a call of a conversation is answered, and what it makes of the core.
use Rattle.std.specs.Prelude.{ℕ, List, [], ◌∷◌, map, filter, Option, Some, None, option_map, unwrap_or}
use Rattle.xa_calls.specs.declared.code.XaCode.TheVariants as code
use Rattle.xa_calls.specs.declared.request.Request.{Request}
use Rattle.xa_calls.specs.declared.request.Request.TheVariants as request
use Rattle.xa_calls.specs.declared.request.Verb.{Verb}
use Rattle.xa_manager.specs.declared.branch.Branch.{Branch}
use Rattle.xa_manager.specs.declared.due.Action.{Action}
use Rattle.xa_manager.specs.declared.due.Action.TheVariants as action
use Rattle.xa_manager.specs.declared.due.Due.{Due}
use Rattle.xa_manager.specs.declared.branch.BranchState.TheVariants.{Heuristic}
use Rattle.xa_manager.specs.declared.due.Decision.{Decision}
use Rattle.xa_manager.specs.declared.due.Decision.TheVariants as decided
use Rattle.xa_manager.specs.declared.due.Work.{Work as Facts}
use Rattle.xa_manager.specs.Branch.{in_doubt_xids, is_lost_with, joined_xid, with_state, without_those_of}
use Rattle.xa_manager.specs.Due.{after, due_of}
use Rattle.core_calls.specs.Call as call
use Rattle.core_calls.specs.Call.{Call}
use Rattle.core_calls.specs.Answer.{Answer, done, in_doubt, in_global, xa}
use Rattle.core_model.specs.Units.{Owner, global, has_any, has_work, local, unit_of}
use Rattle.core_model.specs.Asked.{answer_in, describing, querying, running}
use Rattle.core_model.specs.Events.{Ask, Base, Commit, Event, Leave, asked_of, bare_run}

-- the committed store and the units, and the branches with their states
pub record CoreState : Type 0 where
  pub base : Base
  pub branches : List Branch

-- ---- who works where

-- the unit that a conversation works in: the one of the XID that it is joined to, else its own
abbrev pub owner_of : List Branch → ℕ → Owner
owner_of branches conversation = unwrap_or (option_map (λ x. global x) (joined_xid branches conversation)) (local conversation)

-- what the XA table asks of the units
abbrev pub facts : Base → ℕ → List ℕ → Facts
facts b conversation xid = record { is_local = has_work (unit_of (local conversation) b.units); has_changes = has_any (unit_of (global xid) b.units).changes }

-- what a call makes due of an XID's branch
abbrev pub due_in : List Branch → Base → ℕ → Verb → List ℕ → Due
due_in branches b conversation verb xid = due_of branches conversation verb xid (facts b conversation xid)

-- ---- what happens to units

-- where an action is done of an XID's branch. A prepare keeps changes and claims; a unit without
-- changes that ends at its prepare is committed.
abbrev pub action_events : List ℕ → Action → List Event
action_events xid action.Nothing = []
action_events xid action.Start = []
action_events xid action.Join = []
action_events xid (action.End ending) = []
action_events xid action.Prepare = []
action_events xid action.EndUnchanged = Commit (global xid) ∷ []
action_events xid action.CommitOnePhase = Commit (global xid) ∷ []
action_events xid (action.Decide decided.Commit) = Commit (global xid) ∷ []
action_events xid (action.Decide decided.RollBack) = Leave (global xid) ∷ []
action_events xid action.RollBack = Leave (global xid) ∷ []
action_events xid action.Forget = []

-- the XIDs of the branches that a lost conversation takes with it
abbrev pub lost_xids : List Branch → ℕ → List (List ℕ)
lost_xids branches conversation = map (λ b. b.xid) (filter (λ b. is_lost_with conversation b.state) branches)

-- no commit or rollback of its own ends the unit of an XID
abbrev pub unless_joined : {A : Type 0} → Option (List ℕ) → A → A → A
unless_joined None here there = here
unless_joined (Some xid) here there = there

abbrev pub xa_events : List Branch → Base → ℕ → Option Request → List Event
xa_events branches b conversation (Some (request.Branch verb xid)) = action_events xid (due_in branches b conversation verb xid).action
xa_events branches b conversation (Some request.Recover) = []
xa_events branches b conversation None = []

abbrev pub events : List Branch → Base → ℕ → Call → List Event
events branches b conversation (call.run s params) = Ask (owner_of branches conversation) (running s params) ∷ []
events branches b conversation (call.query s params) = Ask (owner_of branches conversation) (querying s params) ∷ []
events branches b conversation (call.describe s side) = Ask (owner_of branches conversation) (describing s side) ∷ []
events branches b conversation call.commit = unless_joined (joined_xid branches conversation) (Commit (local conversation) ∷ []) []
events branches b conversation call.roll_back = unless_joined (joined_xid branches conversation) (Leave (local conversation) ∷ []) []
events branches b conversation (call.xa r) = xa_events branches b conversation r
events branches b conversation call.lost = Leave (local conversation) ∷ map (λ x. Leave (global x)) (lost_xids branches conversation)

-- ---- what happens to branches

abbrev pub xa_next : List Branch → Base → ℕ → Option Request → List Branch
xa_next branches b conversation (Some (request.Branch verb xid)) = after branches conversation xid (due_in branches b conversation verb xid).action
xa_next branches b conversation (Some request.Recover) = branches
xa_next branches b conversation None = branches

abbrev pub next : List Branch → Base → ℕ → Call → List Branch
next branches b conversation (call.xa r) = xa_next branches b conversation r
next branches b conversation call.lost = without_those_of branches conversation
next branches b conversation (call.run s params) = branches
next branches b conversation (call.query s params) = branches
next branches b conversation (call.describe s side) = branches
next branches b conversation call.commit = branches
next branches b conversation call.roll_back = branches

-- ---- the answer

abbrev pub xa_answer : List Branch → Base → ℕ → Option Request → Answer
xa_answer branches b conversation (Some (request.Branch verb xid)) = xa (due_in branches b conversation verb xid).code
xa_answer branches b conversation (Some request.Recover) = in_doubt (in_doubt_xids branches)
xa_answer branches b conversation None = xa code.Invalid

abbrev pub answer : List Branch → Base → ℕ → Call → Answer
answer branches b conversation (call.run s params) = answer_in (asked_of b (owner_of branches conversation) (running s params))
answer branches b conversation (call.query s params) = answer_in (asked_of b (owner_of branches conversation) (querying s params))
answer branches b conversation (call.describe s side) = answer_in (asked_of b (owner_of branches conversation) (describing s side))
answer branches b conversation call.commit = unless_joined (joined_xid branches conversation) done in_global
answer branches b conversation call.roll_back = unless_joined (joined_xid branches conversation) done in_global
answer branches b conversation (call.xa r) = xa_answer branches b conversation r
answer branches b conversation call.lost = done

-- ---- the step

abbrev pub step_state : CoreState → ℕ → Call → CoreState
step_state s conversation k = record { base = bare_run (events s.branches s.base conversation k) s.base; branches = next s.branches s.base conversation k }

abbrev pub step : CoreState → ℕ → Call → Answer × CoreState
step s conversation k = (answer s.branches s.base conversation k, step_state s conversation k)

-- ---- heuristic decisions

-- A prepared branch is decided without its transaction manager: its changes are made, or not, its unit ends with its claims,
-- and the branch stands so until it is forgotten.
abbrev pub decided_state : CoreState → List ℕ → Decision → CoreState
decided_state s xid d = record { base = bare_run (action_events xid (action.Decide d)) s.base; branches = with_state s.branches xid (Heuristic d) }

-- ---- histories

-- whether the step was taken; where it was not, the answer was an excuse and the state is as before
pub data Mark : Type 0 where
  Taken : Mark
  Kept : Mark

pub record MarkedCall : Type 0 where
  pub conversation : ℕ
  pub call : Call
  pub mark : Mark

abbrev pub step_by : Mark → CoreState → ℕ → Call → CoreState
step_by Taken s conversation k = step_state s conversation k
step_by Kept s conversation k = s

abbrev pub replay : List MarkedCall → CoreState → CoreState
replay [] s = s
replay (l ∷ ls) s = replay ls (step_by l.mark s l.conversation l.call)
