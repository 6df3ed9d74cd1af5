-- A branch in doubt that is restored with its unit.
use Rattle.std.specs.Prelude.{Result, Ok, Err, Option, List, [], ℕ}
use Rattle.tables.specs.Change.{Change}
use Rattle.unit_locks.specs.Claim.{Claim}
use Rattle.unit_locks.specs.Claims.{all_added}
use Rattle.core_model.specs.Units.{global, set_unit}
use Rattle.core_model.specs.Step.{CoreState}
use Rattle.xa_manager.specs.Branch.{found_state, with_branch}
use Rattle.xa_manager.specs.declared.branch.Branch.{Branch}
use Rattle.xa_manager.specs.declared.due.Decision.{Decision}
use Rattle.xa_manager.specs.declared.table.RestoreError.{RestoreError}
use Rattle.xa_manager.specs.declared.table.RestoreError.TheVariants as error
use Rattle.xa_manager.specs.Place.{MayRestore, Restores}

-- when each answer is given: as the branch's; memory may be refused to the unit first, whatever the branch
abbrev pub RestoresUnit : {T : Type 0} → Result T RestoreError → List Branch → List ℕ → Type 0
RestoresUnit (Ok x) branches xid = MayRestore branches xid
RestoresUnit (Err error.NoMemory) branches xid = Unit {0}
RestoresUnit (Err error.Known) branches xid = Restores {T = Unit {0}} (Err error.Known) branches xid
RestoresUnit (Err error.Full) branches xid = Restores {T = Unit {0}} (Err error.Full) branches xid

-- with a branch in doubt more, which stands as it was found, and with the unit that it had
abbrev pub with_in_doubt : CoreState → List ℕ → Option Decision → List Change → List Claim → CoreState
with_in_doubt s xid outcome changes claims = record {
  base = record { store = s.base.store; units = set_unit (global xid) (record { changes = changes; claims = all_added [] claims }) s.base.units };
  branches = with_branch s.branches (record { xid = xid; state = found_state outcome });
}
