-- What an event does to the unit of its owner, and to the others.
use Rattle.std.proofs.Common.{◌≡◌, ℕ, List, [], ◌∷◌, Option, refl, sym, ap, subst}
use Rattle.xa_manager.specs.declared.due.Action.{Action}
use Rattle.xa_manager.specs.declared.due.Action.TheVariants as action
use Rattle.xa_manager.specs.declared.due.Decision.TheVariants as decided
use Rattle.core_model.specs.Units.{Owner, global, local}
use Rattle.core_model.specs.Asked.{Clashes, Done, Outcome, TooMany, Unfit}
use Rattle.core_model.specs.Events.{Base, Commit, Event, Leave, bare, bare_run, happens_asked}
use Rattle.core_model.specs.Step.{CoreState, action_events, due_in, unless_joined}
use Rattle.core_model.specs.Laws.{BranchesWork, Commits, Does, GlobalUnitsStay, HeuristicsWork, LocalUnitsEnd, OthersStay, RollsBack}
use Rattle.core_model.proofs.Owners.{unit_of_gone, unit_of_other, unit_of_without}

pub commits : (o : Owner) (b : Base) → Commits o b (bare b (Commit o))
commits o b = record { store = refl; ended = unit_of_gone o b.units; others = λ p ne. unit_of_without p o b.units ne }

pub rolls_back : (o : Owner) (b : Base) → RollsBack o b (bare b (Leave o))
rolls_back o b = record { store = refl; ended = unit_of_gone o b.units; others = λ p ne. unit_of_without p o b.units ne }

pub store_stays : (b : Base) (o : Owner) (x : Outcome) → (happens_asked b o x).store ≡ b.store
store_stays b o (Unfit f) = refl
store_stays b o Clashes = refl
store_stays b o TooMany = refl
store_stays b o (Done a u) = refl

pub others_stay : (b : Base) (o : Owner) (x : Outcome) → OthersStay o b (happens_asked b o x)
others_stay b o (Unfit f) p ne = refl
others_stay b o Clashes p ne = refl
others_stay b o TooMany p ne = refl
others_stay b o (Done a u) p ne = unit_of_other p o u b.units ne

pub does : (a : Action) (xid : List ℕ) (b : Base) → Does a (global xid) b (bare_run (action_events xid a) b)
does action.Nothing xid b = refl
does action.Start xid b = refl
does action.Join xid b = refl
does (action.End e) xid b = refl
does action.Prepare xid b = refl
does action.EndUnchanged xid b = commits (global xid) b
does action.CommitOnePhase xid b = commits (global xid) b
does (action.Decide decided.Commit) xid b = commits (global xid) b
does (action.Decide decided.RollBack) xid b = rolls_back (global xid) b
does action.RollBack xid b = rolls_back (global xid) b
does action.Forget xid b = refl

pub heuristics_work : HeuristicsWork
heuristics_work s xid d = does (action.Decide d) xid s.base

pub branches_work : BranchesWork
branches_work s conversation verb xid = does (due_in s.branches s.base conversation verb xid).action xid s.base

pub local_units_end : LocalUnitsEnd
local_units_end s conversation free =
    let o = local conversation in
    let P : Option (List ℕ) → Type 0 = λ j. Commits o s.base (bare_run (unless_joined j (Commit o ∷ []) []) s.base) × RollsBack o s.base (bare_run (unless_joined j (Leave o ∷ []) []) s.base) in
    subst P (sym free) (commits o s.base, rolls_back o s.base)

pub global_units_stay : GlobalUnitsStay
global_units_stay s conversation xid joined =
    let o = local conversation in
    let after : Option (List ℕ) → Event → CoreState = λ j e. record { base = bare_run (unless_joined j (e ∷ []) []) s.base; branches = s.branches } in
    (ap (λ j. after j (Commit o)) joined, ap (λ j. after j (Leave o)) joined)
