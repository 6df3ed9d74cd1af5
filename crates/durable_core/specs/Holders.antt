-- The records that left the branches in doubt.
use Rattle.std.specs.Prelude.{◌≡◌, ◌⊎◌, ℕ, Bool, false, is_some, List, ◌∷◌, ◌++◌, Result, Ok, Err}
use Rattle.std.specs.List.{AllByRecursion}
use Rattle.row_values.specs.declared.row.ReadError.{ReadError}
use Rattle.row_values.specs.declared.row.ReadError.TheVariants.{Damaged, NoMemory}
use Rattle.unit_journal.specs.Record.{entry_of}
use Rattle.unit_journal.specs.declared.record.Record.{Record}
use Rattle.unit_records.specs.declared.record.UnitRecord.{UnitRecord as CodeRecord}
use Rattle.unit_records.specs.declared.record.UnitRecord.TheVariants.{Commit, Decide, Forget, Heuristic, Prepare}
use Rattle.recovery.specs.Durable.{Doubts, doubt_of}
use Rattle.durable_core.specs.Damage.{HoldsForOne}

-- of what was read of a record: it left one of the branches in doubt, or not
abbrev pub IsHolder : Doubts → Result CodeRecord ReadError → Bool → Type 0
IsHolder doubts (Ok (Prepare xid changes claims)) told = told ≡ is_some (doubt_of doubts xid)
IsHolder doubts (Ok (Heuristic xid decision)) told = told ≡ is_some (doubt_of doubts xid)
IsHolder doubts (Ok (Commit changes)) told = told ≡ false
IsHolder doubts (Ok (Decide xid decision)) told = told ≡ false
IsHolder doubts (Ok (Forget xid)) told = told ≡ false
IsHolder doubts (Err Damaged) told = told ≡ false
IsHolder doubts (Err NoMemory) told = ⊥

-- none of these records left one of the branches in doubt
abbrev pub NoneHolds : Doubts → List Record → Type 0
NoneHolds doubts records = AllByRecursion (λ r. HoldsForOne doubts (entry_of r) → ⊥) records

-- the last one that did has its gate at this offset
pub record IsLastHolder (doubts : Doubts) (records : List Record) (at : ℕ) : Type 0 where
  pub before : List Record
  pub here : Record
  pub behind : List Record
  pub whole : records ≡ before ++ (here ∷ behind)
  pub holds : HoldsForOne doubts (entry_of here)
  pub none_behind : NoneHolds doubts behind
  pub place : at ≡ here.at

abbrev pub TellsLast : Doubts → List Record → ℕ → Type 0
TellsLast doubts records at = IsLastHolder doubts records at ⊎ NoneHolds doubts records
