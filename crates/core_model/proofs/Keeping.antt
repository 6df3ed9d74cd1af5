-- What every event keeps, every step keeps.
use Rattle.std.proofs.Common.{ℕ, List, [], ◌∷◌, Option, Some, None}
use Rattle.std.specs.Prelude.{map}
use Rattle.xa_calls.specs.declared.request.Request.{Request}
use Rattle.xa_calls.specs.declared.request.Request.TheVariants as request
use Rattle.xa_manager.specs.declared.branch.Branch.{Branch}
use Rattle.xa_manager.specs.declared.due.Action.{Action}
use Rattle.xa_manager.specs.declared.due.Action.TheVariants as action
use Rattle.xa_manager.specs.declared.due.Decision.TheVariants as decided
use Rattle.xa_manager.specs.Branch.{joined_xid}
use Rattle.core_calls.specs.Call as call
use Rattle.core_calls.specs.Call.{Call}
use Rattle.core_model.specs.Units.{Owner, global, local}
use Rattle.core_model.specs.Asked.{Question, describing, querying, running}
use Rattle.core_model.specs.Events.{Ask, Base, Commit, Event, Leave, bare, bare_run}
use Rattle.core_model.specs.Step.{CoreState, action_events, due_in, events, lost_xids, owner_of, step_state, unless_joined, xa_events}

-- nothing is asked of a unit
abbrev pub NoAsks : List Event → Type 0
NoAsks [] = Unit {0}
NoAsks (Ask o q ∷ es) = ⊥
NoAsks (Commit o ∷ es) = NoAsks es
NoAsks (Leave o ∷ es) = NoAsks es

pub of_action : (xid : List ℕ) (a : Action) → NoAsks (action_events xid a)
of_action xid action.Nothing = tt
of_action xid action.Start = tt
of_action xid action.Join = tt
of_action xid (action.End e) = tt
of_action xid action.Prepare = tt
of_action xid action.EndUnchanged = tt
of_action xid action.CommitOnePhase = tt
of_action xid (action.Decide decided.Commit) = tt
of_action xid (action.Decide decided.RollBack) = tt
of_action xid action.RollBack = tt
of_action xid action.Forget = tt

pub of_xa : (branches : List Branch) (b : Base) (c : ℕ) (r : Option Request) → NoAsks (xa_events branches b c r)
of_xa branches b c (Some (request.Branch verb xid)) = of_action xid (due_in branches b c verb xid).action
of_xa branches b c (Some request.Recover) = tt
of_xa branches b c None = tt

pub of_commit : (o : Owner) (j : Option (List ℕ)) → NoAsks (unless_joined j (Commit o ∷ []) [])
of_commit o None = tt
of_commit o (Some xid) = tt

pub of_roll_back : (o : Owner) (j : Option (List ℕ)) → NoAsks (unless_joined j (Leave o ∷ []) [])
of_roll_back o None = tt
of_roll_back o (Some xid) = tt

pub of_lost : (xs : List (List ℕ)) → NoAsks (map (λ x. Leave (global x)) xs)
of_lost [] = tt
of_lost (x ∷ xs) = of_lost xs

module _ (P : Base → Type 0) (commit : (b : Base) (o : Owner) → P b → P (bare b (Commit o))) (leave : (b : Base) (o : Owner) → P b → P (bare b (Leave o))) where
  run_keeps : (es : List Event) (b : Base) → NoAsks es → P b → P (bare_run es b)
  run_keeps [] b none h = h
  run_keeps (Ask o q ∷ es) b none h = absurd none
  run_keeps (Commit o ∷ es) b none h = run_keeps es (bare b (Commit o)) none (commit b o h)
  run_keeps (Leave o ∷ es) b none h = run_keeps es (bare b (Leave o)) none (leave b o h)

  pub step_keeps : (s : CoreState) (c : ℕ) (k : Call) → ((q : Question) → P (bare s.base (Ask (owner_of s.branches c) q))) → P s.base → P (step_state s c k).base
  step_keeps s c (call.run st params) ask h = ask (running st params)
  step_keeps s c (call.query st params) ask h = ask (querying st params)
  step_keeps s c (call.describe st d) ask h = ask (describing st d)
  step_keeps s c call.commit ask h = run_keeps (events s.branches s.base c call.commit) s.base (of_commit (local c) (joined_xid s.branches c)) h
  step_keeps s c call.roll_back ask h = run_keeps (events s.branches s.base c call.roll_back) s.base (of_roll_back (local c) (joined_xid s.branches c)) h
  step_keeps s c (call.xa r) ask h = run_keeps (events s.branches s.base c (call.xa r)) s.base (of_xa s.branches s.base c r) h
  step_keeps s c call.lost ask h = run_keeps (events s.branches s.base c call.lost) s.base (of_lost (lost_xids s.branches c)) h
