-- What the code's records say, and what reading answers.
use Rattle.std.specs.Prelude.{◌≡◌, ℕ, List, map, Result, Ok, Err}
use Rattle.row_values.specs.declared.row.ReadError.{ReadError}
use Rattle.row_values.specs.declared.row.ReadError.TheVariants.{Damaged, NoMemory}
use Rattle.tables.specs.ChangeView.{change_of}
use Rattle.unit_journal.specs.declared.kind.Kind.{Kind}
use Rattle.unit_records.specs.Records.{IsRecord, UnitRecord, committed, decided, forgotten, heuristic, prepared}
use Rattle.unit_records.specs.declared.record.UnitRecord.{UnitRecord as CodeRecord}
use Rattle.unit_records.specs.declared.record.UnitRecord.TheVariants.{Commit, Decide, Forget, Heuristic, Prepare}

abbrev pub record_of : CodeRecord → UnitRecord
record_of (Commit changes) = committed (map change_of changes.items)
record_of (Prepare xid changes claims) = prepared xid (map change_of changes.items) claims.items
record_of (Decide xid decision) = decided xid decision
record_of (Heuristic xid decision) = heuristic xid decision
record_of (Forget xid) = forgotten xid

-- the body is no record of the kind, or there is no memory
abbrev pub IsNone : Kind → List ℕ → ReadError → Type 0
IsNone kind body Damaged = (r : UnitRecord) → IsRecord kind body r → ⊥
IsNone kind body NoMemory = Unit {0}

-- the record that a body is, or that it is none; want of memory may come in place of either
abbrev pub ReadsRecord : Kind → List ℕ → Result CodeRecord ReadError → Type 0
ReadsRecord kind body (Ok r) = IsRecord kind body (record_of r)
ReadsRecord kind body (Err error) = IsNone kind body error

-- this record is read, or there is no memory
abbrev pub Gives : UnitRecord → Result CodeRecord ReadError → Type 0
Gives r (Ok read) = record_of read ≡ r
Gives r (Err Damaged) = ⊥
Gives r (Err NoMemory) = Unit {0}
