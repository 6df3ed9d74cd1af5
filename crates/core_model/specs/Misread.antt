-- What a core makes of a statement where its device need not give back what was written: the statement is given other rows of
-- the same tables.
use Rattle.std.specs.Prelude.{◌≡◌, ℕ, Bool, List, Option, true, false}
use Rattle.std.specs.Map.{keys_of}
use Rattle.row_values.specs.Schema.{Schema}
use Rattle.tables.specs.Tables.{Store, schema_of}
use Rattle.tables.specs.View.{is_store}
use Rattle.core_calls.specs.Answer.{Answer}
use Rattle.core_calls.specs.Call as call
use Rattle.core_calls.specs.Call.{Call}
use Rattle.core_model.specs.Events.{Base}
use Rattle.core_model.specs.Step.{CoreState, answer, step_state}

-- only statements read rows
abbrev pub reads_rows : Call → Bool
reads_rows (call.run s params) = true
reads_rows (call.query s params) = true
reads_rows (call.describe s side) = false
reads_rows call.commit = false
reads_rows call.roll_back = false
reads_rows (call.xa r) = false
reads_rows call.lost = false

-- two stores have the same tables, whatever their rows
pub record SameTables (s t : Store) : Type 0 where
  pub schemas : (q : List ℕ) → schema_of s q ≡ schema_of t q
  pub names : keys_of s ≡ keys_of t

-- the units of a core, over these tables
abbrev pub base_over : Store → CoreState → Base
base_over tables s = record { store = tables; units = s.base.units }

abbrev pub over : Store → CoreState → CoreState
over tables s = record { base = base_over tables s; branches = s.branches }

-- The answer is that of the step over the rows that were given, and so are the units. What is committed stays.
pub record Misreads (old : CoreState) (conversation : ℕ) (k : Call) (told : Answer) (new : CoreState) : Type 0 where
  pub reading : reads_rows k ≡ true
  pub given : Store
  pub good : is_store given ≡ true
  pub same : SameTables old.base.store given
  pub answer_is : told ≡ answer old.branches (base_over given old) conversation k
  pub state : new ≡ over old.base.store (step_state (over given old) conversation k)
