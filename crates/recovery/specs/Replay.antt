-- What a replay shows, and what its calls answer.
use Rattle.std.specs.Prelude.{◌≡◌, ℕ, Bool, true, false, List, [], map, Option, Some, None, Result, Ok, Err}
use Rattle.row_values.specs.declared.row.ReadError.{ReadError}
use Rattle.row_values.specs.declared.row.ReadError.TheVariants.{Damaged, NoMemory}
use Rattle.paged_tables.specs.PagedTables.{store_in}
use Rattle.paged_tables.specs.TablesByName.{Tables}
use Rattle.unit_locks.specs.Claims.{all_added}
use Rattle.recovery.specs.Durable.{Doubt, Doubts, Durable}
use Rattle.recovery.specs.declared.prepared.PreparedUnit.{PreparedUnit}
use Rattle.recovery.specs.declared.steps.Replay.{Replay}

-- with each claim once
abbrev pub doubt_in : PreparedUnit → List ℕ × Doubt
doubt_in u = (u.xid, record { work = record { changes = u.changes; claims = all_added [] u.claims.items }; outcome = u.outcome })

abbrev pub doubts_in : List PreparedUnit → Doubts
doubts_in units = map doubt_in units

abbrev pub durable_of : Replay → Durable
durable_of r = record { store = store_in r.store; doubts = doubts_in r.units.items }

-- the committed tables with the places of their pages
abbrev pub pages_of : Replay → Tables
pages_of r = r.store.tables

-- the test is not passed, or there is no memory
abbrev pub Fails : ReadError → Bool → Type 0
Fails Damaged test = test ≡ false
Fails NoMemory test = Unit {0}

-- what is told of a test: it is passed, or the journal is damaged. Want of memory may come in place of either.
abbrev pub Judges : {X : Type 0} → Result X ReadError → Bool → Type 0
Judges (Ok x) test = test ≡ true
Judges (Err error) test = Fails error test

-- what is told of a record: the state behind it, or that it has no place
abbrev pub Steps : {X : Type 0} → Result X ReadError → Option Durable → Durable → Type 0
Steps (Ok x) state new = state ≡ Some new
Steps (Err Damaged) state new = state ≡ None
Steps (Err NoMemory) state new = Unit {0}
