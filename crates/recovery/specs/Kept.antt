-- What holds of every core that was opened, whatever is called: why a record that is due has its place.
use Rattle.std.specs.Prelude.{◌≡◌, ℕ, Bool, true, false, List, [], Option, Some, None}
use Rattle.std.specs.List.{AllByRecursion}
use Rattle.xa_manager.specs.declared.branch.Branch.{Branch}
use Rattle.xa_manager.specs.declared.branch.BranchState.{BranchState}
use Rattle.xa_manager.specs.Branch.{IsTable, is_in_doubt, state_of}
use Rattle.tables.specs.View.{is_store}
use Rattle.unit_locks.specs.Claims.{all_added}
use Rattle.core_model.specs.Units.{Owner, global, idle, local, same_owner, unit_of}
use Rattle.xa_manager.specs.declared.branch.BranchState.TheVariants.{Heuristic}
use Rattle.xa_manager.specs.declared.due.Decision.{Decision}
use Rattle.core_model.specs.Step.{CoreState}
use Rattle.unit_records.specs.Records.{IsChange}
use Rattle.recovery.specs.Durable.{have_places, is_claimed}
use Rattle.recovery.specs.Places.{creates_none}

abbrev pub waits : Option BranchState → Bool
waits None = false
waits (Some state) = is_in_doubt state

-- the unit is that of a branch in doubt
abbrev pub is_in_doubt_in : List Branch → Owner → Bool
is_in_doubt_in branches (local conversation) = false
is_in_doubt_in branches (global xid) = waits (state_of branches xid)

pub record IsKept (s : CoreState) : Type 0 where
  pub table : IsTable s.branches
  pub store : is_store s.base.store ≡ true
  -- the changes of a unit that is not in doubt have their places in the committed store
  pub places : (o : Owner) → is_in_doubt_in s.branches o ≡ false → have_places (unit_of o s.base.units).changes s.base.store ≡ true
  -- all changes can be written
  pub good : (o : Owner) → AllByRecursion IsChange (unit_of o s.base.units).changes
  -- each claim once
  pub once : (o : Owner) → all_added [] (unit_of o s.base.units).claims ≡ (unit_of o s.base.units).claims
  -- a unit that creates a table has claimed all names
  pub claimed : (o : Owner) → is_claimed (unit_of o s.base.units).changes (unit_of o s.base.units).claims ≡ true
  -- the unit of a branch that was decided heuristically has ended
  pub ended : (xid : List ℕ) (o : Decision) → state_of s.branches xid ≡ Some (Heuristic o) → unit_of (global xid) s.base.units ≡ idle
  -- while a unit that is not in doubt creates a table, no other unit does
  pub alone : (o p : Owner) → same_owner o p ≡ false → is_in_doubt_in s.branches o ≡ false
      → creates_none (unit_of o s.base.units).changes ≡ false → creates_none (unit_of p s.base.units).changes ≡ true
