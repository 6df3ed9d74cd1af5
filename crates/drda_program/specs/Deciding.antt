-- What a heuristic decision does to the store of a path.
use Rattle.std.specs.Prelude.{◌≡◌, ◌⊎◌, ℕ, Bool, true, List, codes, Option, Some, Result, Ok, Err}
use Rattle.std.specs.Io.KnownBytes.{Appends}
use Rattle.drda_disk.specs.Disk.{Life}
use Rattle.half_store.specs.declared.header.Layout.TheVariants.{One, Two}
use Rattle.xa_manager.specs.declared.due.Decision.{Decision}
use Rattle.recovery.specs.Journaled.{OnDisk, shown_on}
use Rattle.durable_core.specs.Checkpointing.{Checkpoints}
use Rattle.durable_core.specs.Deciding.{Decides}
use Rattle.durable_core.specs.declared.checkpointing.Checkpointed.TheVariants as checkpoint
use Rattle.durable_core.specs.declared.deciding.Decided.TheVariants as decided
use Rattle.drda_node.specs.Asking.{IsJournaled}
use Rattle.store_files.specs.Files.{FileCalls}
use Rattle.store_files.specs.Opening.{IsOver, OpensStore}
use Rattle.store_files.specs.declared.fault.Fault.{Fault}
use Rattle.store_files.specs.declared.fault.Fault.TheVariants.{BadArguments, BadEvent, Damaged, Device, NoMemory, NoRoom, NotAStore, NotInDoubt}

module _ {D : Type 0} (life : D → Life) where
  -- in a store of layout 2 the unit of the XID is decided so; where memory is wanting nothing is
  abbrev pub Settles : List ℕ → Decision → OnDisk D → Result (Unit {0}) Fault → OnDisk D → Type 0
  Settles xid d ready (Ok done) left = Decides xid d decided.Done (shown_on life ready) (shown_on life left)
  Settles xid d ready (Err NotInDoubt) left = Decides xid d decided.NotInDoubt (shown_on life ready) (shown_on life left)
  Settles xid d ready (Err NoMemory) left = (left.state ≡ ready.state) × (left.made ≡ ready.made)
  Settles xid d ready (Err Device) left = left.is_failed ≡ true
  Settles xid d ready (Err NoRoom) left = ⊥
  Settles xid d ready (Err BadArguments) left = ⊥
  Settles xid d ready (Err NotAStore) left = ⊥
  Settles xid d ready (Err (Damaged at)) left = ⊥
  Settles xid d ready (Err BadEvent) left = ⊥

module _ {D : Type 0} (modelled : Bool) (life : D → Life) where
  -- a checkpoint is written, which makes the store one of layout 2; where it has no room the store stays as it was
  abbrev pub Migrates : OnDisk D → Result (Unit {0}) Fault → OnDisk D → Type 0
  Migrates core (Ok done) left = Checkpoints modelled checkpoint.Done (shown_on life core) (shown_on life left)
  Migrates core (Err NoRoom) left = (need : ℕ) × (room : ℕ) × Checkpoints modelled (checkpoint.Full need room) (shown_on life core) (shown_on life left)
  Migrates core (Err NoMemory) left = (left.state ≡ core.state) × (left.made ≡ core.made)
  Migrates core (Err Device) left = left.is_failed ≡ true
  Migrates core (Err NotInDoubt) left = ⊥
  Migrates core (Err BadArguments) left = ⊥
  Migrates core (Err NotAStore) left = ⊥
  Migrates core (Err (Damaged at)) left = ⊥
  Migrates core (Err BadEvent) left = ⊥

  -- a store of layout 2 is ready for it, one of layout 1 once it has been migrated
  abbrev pub IsReady : OnDisk D → OnDisk D → Type 0
  IsReady core ready = ((core.layout ≡ Two) × (ready ≡ core)) ⊎ ((core.layout ≡ One) × Migrates core (Ok tt) ready)

  -- the unit is decided, or it is not; then a store of layout 1 may be as it was, too
  pub record Ends (xid : List ℕ) (d : Decision) (core : OnDisk D) (outcome : Result (Unit {0}) Fault) (left : OnDisk D) : Type 0 where
    pub either : ((ready : OnDisk D) × IsReady core ready × Settles life xid d ready outcome left)
        ⊎ ((fault : Fault) × (outcome ≡ Err fault) × (core.layout ≡ One) × Migrates core (Err fault) left)

-- what is said of it: that the unit is decided, and nothing where it is not
abbrev pub Says : Result (Unit {0}) Fault → Option (List ℕ) → Result (Unit {0}) Fault → Option (List ℕ) → Type 0
Says (Ok done) before (Ok told) now = Appends before now (codes "decided\n")
Says (Ok done) before (Err fault) now = fault ≡ Device
Says (Err fault) before outcome now = (outcome ≡ Err fault) × (now ≡ before)

module _ {D : Type 0} (modelled : Bool) (life : D → Life) where
  -- over the store that a disk is; what was recorded of it is on the disk at any moment, or nothing of it
  pub record DecidesOn (disk : D) (xid : List ℕ) (d : Decision) (before : Option (List ℕ)) (outcome : Result (Unit {0}) Fault) (now : Option (List ℕ)) : Type 0 where
    pub core : OnDisk D
    pub over : IsOver modelled life disk core
    pub result : Result (Unit {0}) Fault
    pub left : OnDisk D
    pub ends : Ends modelled life xid d core result left
    pub journaled : IsJournaled modelled life core left
    pub says : Says result before outcome now

  -- over the store of a path, if there is one
  abbrev pub DecidesFile : {F : Type 0} → FileCalls F D → List ℕ → List ℕ → Decision → F → Option (List ℕ) → Result (Unit {0}) Fault → F → Option (List ℕ) → Type 0
  DecidesFile calls path xid d files before outcome files' now = ((fault : Fault) × (outcome ≡ Err fault) × OpensStore modelled life calls files path (Err fault) files' × (now ≡ before))
      ⊎ ((disk : D) × calls.opens files path (Some disk) files' × DecidesOn disk xid d before outcome now)
