-- What holds over all calls: a prepared branch waits for its decision, and a conversation works in one
-- branch at most, which is active.
use Rattle.std.specs.Prelude.{◌≡◌, ◌⊎◌, ◌<◌, ◌≤◌, ℕ, Bool, true, false, IsTrue, bytes_eq, List, Option, Some, None, if◌then◌else◌}
use Rattle.drda_words.specs.Order.{IsRising}
use Rattle.xa_manager.specs.declared.branch.Branch.{Branch}
use Rattle.xa_manager.specs.declared.branch.BranchState.{BranchState}
use Rattle.xa_manager.specs.declared.branch.BranchState.TheVariants.{Active, Heuristic, Idle, RollbackOnly, Prepared}
use Rattle.xa_calls.specs.declared.code.XaCode.{XaCode}
use Rattle.xa_calls.specs.declared.code.XaCode.TheVariants as code
use Rattle.xa_calls.specs.declared.request.Verb.{Verb}
use Rattle.xa_manager.specs.declared.due.Action.{Action}
use Rattle.xa_manager.specs.declared.due.Decision.{Decision}
use Rattle.xa_manager.specs.declared.due.Action.TheVariants as action
use Rattle.xa_manager.specs.declared.due.Work.{Work}
use Rattle.xa_manager.specs.declared.due.Facts.{Facts}
use Rattle.xa_manager.specs.Branch.{state_of, joined_xid, is_joined_by, count_of, with_state, without_those_of}
use Rattle.xa_manager.specs.Due.{due_of, facts_of, next_state, after}

-- what is due is the branch's decision
abbrev pub is_decision : Action → Bool
is_decision (action.Decide _) = true
is_decision action.Nothing = false
is_decision action.Start = false
is_decision action.Join = false
is_decision (action.End _) = false
is_decision action.EndUnchanged = false
is_decision action.Prepare = false
is_decision action.CommitOnePhase = false
is_decision action.RollBack = false
is_decision action.Forget = false

-- what a conversation makes due by asking this of an XID
abbrev pub action_of : List Branch → ℕ → Verb → List ℕ → Work → Action
action_of bs conversation v xid work = (due_of bs conversation v xid work).action

-- a code that refuses a call (C193 chapter 4: the negative ones)
abbrev pub is_refusal : XaCode → Bool
is_refusal code.Done = false
is_refusal code.ReadOnly = false
is_refusal code.HeuristicallyRolledBack = false
is_refusal code.HeuristicallyCommitted = false
is_refusal code.RolledBack = false
is_refusal code.Limit = true
is_refusal code.Unknown = true
is_refusal code.Invalid = true
is_refusal code.Protocol = true
is_refusal code.Duplicate = true
is_refusal code.Outside = true

-- a call that is refused makes nothing due
abbrev pub RefusalsDoNothing : Type 0
RefusalsDoNothing =
    (bs : List Branch) (conversation : ℕ) (v : Verb) (xid : List ℕ) (work : Work) → IsTrue (is_refusal (due_of bs conversation v xid work).code) → action_of bs conversation v xid work ≡ action.Nothing

-- no conversation is joined to the branch
abbrev pub IsIdle : Option BranchState → Type 0
IsIdle s = (last : ℕ) × (s ≡ Some (Idle last))

-- where a branch stands of which an action is due, and what else is so
abbrev pub FitsAction : Action → Option BranchState → Facts → Type 0
FitsAction action.Nothing s f = Unit {0}
FitsAction action.Start s f = (s ≡ None) × (f.is_joined ≡ false) × (f.known < 1024)
FitsAction action.Join s f = IsIdle s × (f.is_joined ≡ false)
FitsAction (action.End _) s f = (s ≡ Some (Active f.conversation)) ⊎ (s ≡ Some (Idle f.conversation))
FitsAction action.EndUnchanged s f = IsIdle s
FitsAction action.Prepare s f = IsIdle s × (f.in_doubt < 256)
FitsAction action.CommitOnePhase s f = IsIdle s
FitsAction (action.Decide _) s f = s ≡ Some Prepared
FitsAction action.RollBack s f = IsIdle s ⊎ ((last : ℕ) × (s ≡ Some (RollbackOnly last)))
FitsAction action.Forget s f = (d : Decision) × (s ≡ Some (Heuristic d))

-- each action is due only of a branch that stands so
abbrev pub ActionsFit : Type 0
ActionsFit =
    (bs : List Branch) (conversation : ℕ) (v : Verb) (xid : List ℕ) (work : Work) → FitsAction (action_of bs conversation v xid work) (state_of bs xid) (facts_of bs conversation work)

-- a call moves the branch that it names to its next state, and leaves the others where they stand
abbrev pub MovesOne : Type 0
MovesOne =
    (bs : List Branch) (conversation : ℕ) (v : Verb) (asked xid : List ℕ) (work : Work)
    → let a = action_of bs conversation v asked work in
    state_of (after bs conversation asked a) xid ≡ (if bytes_eq asked xid then next_state conversation a (state_of bs asked) else state_of bs xid)

-- a prepared branch stays so over each call, but for its decision
abbrev pub PreparedStays : Type 0
PreparedStays =
    (bs : List Branch) (conversation : ℕ) (v : Verb) (asked xid : List ℕ) (work : Work) → state_of bs xid ≡ Some Prepared
    → (state_of (after bs conversation asked (action_of bs conversation v asked work)) xid ≡ Some Prepared)
    ⊎ ((asked ≡ xid) × IsTrue (is_decision (action_of bs conversation v asked work)))

-- and over the loss of a conversation
abbrev pub PreparedOutlives : Type 0
PreparedOutlives =
    (bs : List Branch) (conversation : ℕ) (xid : List ℕ) → state_of bs xid ≡ Some Prepared → state_of (without_those_of bs conversation) xid ≡ Some Prepared

-- only a prepared branch is decided
abbrev pub OnlyPreparedDecided : Type 0
OnlyPreparedDecided =
    (bs : List Branch) (conversation : ℕ) (v : Verb) (xid : List ℕ) (work : Work) → IsTrue (is_decision (action_of bs conversation v xid work)) → state_of bs xid ≡ Some Prepared

-- a branch that was decided heuristically stays so over each call, until it is forgotten
abbrev pub HeuristicStays : Type 0
HeuristicStays =
    (bs : List Branch) (conversation : ℕ) (v : Verb) (asked xid : List ℕ) (work : Work) (d : Decision) → state_of bs xid ≡ Some (Heuristic d)
    → (state_of (after bs conversation asked (action_of bs conversation v asked work)) xid ≡ Some (Heuristic d))
    ⊎ ((asked ≡ xid) × (action_of bs conversation v asked work ≡ action.Forget))

-- and over the loss of a conversation
abbrev pub HeuristicOutlives : Type 0
HeuristicOutlives =
    (bs : List Branch) (conversation : ℕ) (xid : List ℕ) (d : Decision) → state_of bs xid ≡ Some (Heuristic d) → state_of (without_those_of bs conversation) xid ≡ Some (Heuristic d)

-- a heuristic decision of a prepared branch leaves every other where it stands
abbrev pub DecidesOne : Type 0
DecidesOne =
    (bs : List Branch) (asked : List ℕ) (d : Decision) (xid : List ℕ) → state_of bs asked ≡ Some Prepared
    → state_of (with_state bs asked (Heuristic d)) xid ≡ (if bytes_eq asked xid then Some (Heuristic d) else state_of bs xid)

-- the branch that a conversation is joined to is active
abbrev pub JoinedIsActive : Type 0
JoinedIsActive =
    (bs : List Branch) (conversation : ℕ) (xid : List ℕ) → IsRising (λ b. b.xid) bs → joined_xid bs conversation ≡ Some xid → state_of bs xid ≡ Some (Active conversation)

-- each conversation is joined to one branch at most
abbrev pub OneEach : List Branch → Type 0
OneEach bs = (conversation : ℕ) → count_of (is_joined_by conversation) bs ≤ 1

-- this stays so over each call, and over the loss of a conversation
abbrev pub OneEachStays : Type 0
OneEachStays =
    (bs : List Branch) (conversation : ℕ) (v : Verb) (xid : List ℕ) (work : Work) → IsRising (λ b. b.xid) bs → OneEach bs → OneEach (after bs conversation xid (action_of bs conversation v xid work))

abbrev pub OneEachOutlives : Type 0
OneEachOutlives = (bs : List Branch) (conversation : ℕ) → OneEach bs → OneEach (without_those_of bs conversation)
