-- The phases of two-phase commit: what is asked of a branch, and what is due of it then.
use Rattle.std.specs.Prelude.{Option, Some, None}
use Rattle.xa_calls.specs.declared.request.Verb.{Verb}
use Rattle.xa_calls.specs.declared.request.Verb.TheVariants as verb
use Rattle.xa_manager.specs.declared.due.Action.{Action}
use Rattle.xa_manager.specs.declared.due.Action.TheVariants as action
use Rattle.xa_manager.specs.declared.due.Decision.TheVariants as decision
use Rattle.unit_records.specs.declared.phase.Phase.{Phase}
use Rattle.unit_records.specs.declared.phase.Phase.TheVariants.{Decide, Prepare}

-- what is asked of the branch
abbrev pub verb_of : Phase → Verb
verb_of Prepare = verb.Prepare
verb_of (Decide decision.Commit) = verb.Commit
verb_of (Decide decision.RollBack) = verb.RollBack

abbrev pub phase_of : Verb → Option Phase
phase_of verb.Prepare = Some Prepare
phase_of verb.Commit = Some (Decide decision.Commit)
phase_of verb.RollBack = Some (Decide decision.RollBack)
phase_of verb.Start = None
phase_of verb.Join = None
phase_of (verb.End e) = None
phase_of verb.CommitOnePhase = None
phase_of verb.Forget = None

-- what is due of it then
abbrev pub action_of : Phase → Action
action_of Prepare = action.Prepare
action_of (Decide d) = action.Decide d
