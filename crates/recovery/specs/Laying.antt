-- Branches in doubt at a checkpoint: a record of each is laid behind its tables.
use Rattle.std.specs.Prelude.{◌≡◌, ℕ, Bool, true, List, [], ◌∷◌, ◌&&◌, map, Option, Some, None}
use Rattle.tables.specs.Tables.{Store}
use Rattle.unit_records.specs.Records.{UnitRecord, committed, decided, entry_of, forgotten, heuristic, prepared}
use Rattle.xa_manager.specs.declared.due.Decision.{Decision}
use Rattle.core_model.specs.Units.{Work}
use Rattle.recovery.specs.Durable.{Doubt, Doubts, Durable, at_checkpoint, have_places, replayed_from}
use Rattle.recovery.specs.Journal.{Leads}
use Rattle.recovery.specs.Sound.{IsSound}

-- the record of a branch that waits for its decision, and of one that was decided heuristically
abbrev pub laid_in : List ℕ → Work → Option Decision → UnitRecord
laid_in xid work None = prepared xid work.changes work.claims
laid_in xid work (Some o) = heuristic xid o

abbrev pub laid_of : List ℕ × Doubt → UnitRecord
laid_of e = laid_in e.0 e.1.work e.1.outcome

-- the records of all of them, in the order of their XIDs
abbrev pub records_of : Doubts → List UnitRecord
records_of doubts = map laid_of doubts

-- the changes of a unit that waits for its decision have their places in a store
abbrev pub is_placed : Store → Work → Option Decision → Bool
is_placed store work None = have_places work.changes store
is_placed store work (Some o) = true

-- so have the changes that a record prepares
abbrev pub is_placed_by : Store → UnitRecord → Bool
is_placed_by store (committed changes) = true
is_placed_by store (prepared xid changes claims) = have_places changes store
is_placed_by store (decided xid o) = true
is_placed_by store (heuristic xid o) = true
is_placed_by store (forgotten xid) = true

-- and those of each unit
abbrev pub are_placed : Doubts → Store → Bool
are_placed [] store = true
are_placed (e ∷ es) store = is_placed store e.1.work e.1.outcome && are_placed es store

-- So the records lead from the checkpoint to the state with just these branches in doubt. In a store that other programs
-- wrote the changes of a unit in doubt may have lost their places.
pub record DoubtsAreLaid : Type 0 where
  pub replayed : (d : Durable) → IsSound d → are_placed d.doubts d.store ≡ true → replayed_from (at_checkpoint d.store) (records_of d.doubts) ≡ Some d
  pub leads : (d : Durable) → IsSound d → are_placed d.doubts d.store ≡ true → Leads (at_checkpoint d.store) (map entry_of (records_of d.doubts)) d
