-- What holds of every state that records lead to.
use Rattle.std.specs.Prelude.{◌≡◌, ◌≤◌, ℕ, true, List, [], length, Option, Some, None}
use Rattle.std.specs.List.{AllByRecursion}
use Rattle.std.specs.Ordering.{nat_cmp}
use Rattle.std.specs.Cmp.Lexicographic.{slice_cmp}
use Rattle.std.specs.Map.{keys_of}
use Rattle.drda_words.specs.Order.{rises}
use Rattle.tables.specs.Tables.{Store}
use Rattle.tables.specs.View.{is_store}
use Rattle.core_model.specs.Units.{Work, idle}
use Rattle.xa_calls.specs.Xid.{IsXid}
use Rattle.xa_manager.specs.declared.due.Decision.{Decision}
use Rattle.unit_locks.specs.Claims.{all_added}
use Rattle.unit_journal.specs.Record.{Entry}
use Rattle.unit_records.specs.Records.{IsGood, UnitRecord, prepared}
use Rattle.recovery.specs.Durable.{Doubt, Durable, at_checkpoint, is_claimed, next}
use Rattle.recovery.specs.Journal.{Leads}

-- a unit in doubt whose prepare can be written, and that has claimed all names where it creates a table
pub record IsGoodUnit (xid : List ℕ) (work : Work) : Type 0 where
  pub good : IsGood (prepared xid work.changes work.claims)
  pub claimed : is_claimed work.changes work.claims ≡ true
  -- each claim once
  pub once : all_added [] work.claims ≡ work.claims

-- a branch that waits for its decision has such a unit, and of one that was decided heuristically the unit has ended
abbrev pub IsGoodBranch : List ℕ → Work → Option Decision → Type 0
IsGoodBranch xid work None = IsGoodUnit xid work
IsGoodBranch xid work (Some o) = IsXid xid × (work ≡ idle)

abbrev pub IsGoodDoubt : List ℕ × Doubt → Type 0
IsGoodDoubt e = IsGoodBranch e.0 e.1.work e.1.outcome

-- the committed store is one; the XIDs in doubt rise, 256 at most, each with a unit that can be written
pub record IsSound (d : Durable) : Type 0 where
  pub store : is_store d.store ≡ true
  pub rising : rises (slice_cmp nat_cmp) (keys_of d.doubts) ≡ true
  pub few : length d.doubts ≤ 256
  pub good : AllByRecursion IsGoodDoubt d.doubts

-- a record that can be written keeps a state sound
abbrev pub StatesStaySound : Type 0
StatesStaySound = (d e : Durable) (r : UnitRecord) → IsGood r → next d r ≡ Some e → IsSound d → IsSound e

-- so entries lead from a checkpoint, whose tables are a store, to a sound state
abbrev pub LeadsAreSound : Type 0
LeadsAreSound = (store : Store) (d : Durable) (es : List Entry) → is_store store ≡ true → Leads (at_checkpoint store) es d → IsSound d
