-- What is durable of a core: its committed tables, and its branches in doubt with the units of those that are prepared.
use Rattle.std.specs.Prelude.{ℕ, List, [], ◌∷◌, map, Option, Some, None}
use Rattle.xa_manager.specs.declared.branch.Branch.{Branch}
use Rattle.xa_manager.specs.declared.branch.BranchState.{BranchState}
use Rattle.xa_manager.specs.declared.branch.BranchState.TheVariants.{Active, Heuristic, Idle, Prepared, RollbackOnly}
use Rattle.xa_manager.specs.declared.due.Decision.{Decision}
use Rattle.xa_manager.specs.Branch.{found_state, in_doubt_xids, state_of}
use Rattle.core_model.specs.Units.{Held, global, set_unit, unit_of}
use Rattle.core_model.specs.Step.{CoreState}
use Rattle.recovery.specs.Durable.{Doubt, Doubts, Durable}

-- how a branch was decided heuristically, where it was
abbrev pub outcome_of : BranchState → Option Decision
outcome_of (Active conversation) = None
outcome_of (Idle conversation) = None
outcome_of (RollbackOnly conversation) = None
outcome_of Prepared = None
outcome_of (Heuristic o) = Some o

abbrev pub outcome_at : Option BranchState → Option Decision
outcome_at None = None
outcome_at (Some state) = outcome_of state

-- what is kept of the branch of an XID
abbrev pub doubt_at : List Branch → List Held → List ℕ → Doubt
doubt_at branches units xid = record { work = unit_of (global xid) units; outcome = outcome_at (state_of branches xid) }

-- the branches in doubt with their units, in the order of their XIDs' bytes
abbrev pub doubts_in : List Branch → List Held → Doubts
doubts_in branches units = map (λ (xid : List ℕ). (xid, doubt_at branches units xid)) (in_doubt_xids branches)

abbrev pub durable_part : CoreState → Durable
durable_part s = record { store = s.base.store; doubts = doubts_in s.branches s.base.units }

-- ---- a core that is opened

abbrev pub doubt_units : Doubts → List Held
doubt_units [] = []
doubt_units (e ∷ es) = set_unit (global e.0) e.1.work (doubt_units es)

abbrev pub doubt_branches : Doubts → List Branch
doubt_branches doubts = map (λ (e : List ℕ × Doubt). record { xid = e.0; state = found_state e.1.outcome }) doubts

-- no unit has work but those of branches in doubt
abbrev pub opened : Durable → CoreState
opened d = record { base = record { store = d.store; units = doubt_units d.doubts }; branches = doubt_branches d.doubts }
