-- A store in memory that is just made.
use Rattle.std.specs.Prelude.{◌≡◌, ℕ, Bool, true, false, List, Result, Ok, Err}
use Rattle.drda_disk.specs.Disk.{Only}
use Rattle.drda_disk.specs.MemDisk.{life_of, read_of, synced_of}
use Rattle.drda_disk.specs.declared.memory.MemDisk.{MemDisk}
use Rattle.half_store.specs.Fresh.{is_name}
use Rattle.half_store.specs.declared.header.Layout.TheVariants.{Two}
use Rattle.recovery.specs.Durable.{fresh}
use Rattle.recovery.specs.Journaled.{OnDisk}
use Rattle.recovery.specs.Opens.{OpensTo}
use Rattle.durable_core.specs.Opening.{IsOpenedTo, SettlesFirst}
use Rattle.store_files.specs.Opening.{IsOver}
use Rattle.store_files.specs.declared.fault.Fault.{Fault}
use Rattle.store_files.specs.declared.fault.Fault.TheVariants.{BadArguments, BadEvent, Damaged, Device, NoMemory, NoRoom, NotAStore, NotInDoubt}

-- the syncs of a disk in memory
abbrev pub syncs_in_memory : MemDisk → Bool → MemDisk → Type 0
syncs_in_memory disk ok disk' = (read_of disk' ≡ read_of disk) × (synced_of disk' ≡ read_of disk)

-- a disk in memory of which a crash leaves a store of this name, of layout 2, that was just made, and the core that was opened over it
pub record IsFreshOver (name : List ℕ) (disk : MemDisk) (core : OnDisk MemDisk) : Type 0 where
  pub only : Only (life_of disk)
  pub opens : OpensTo name fresh (life_of disk).seen
  pub over : IsOver true life_of disk core
  pub settles : SettlesFirst life_of syncs_in_memory disk core.disk
  pub finds : IsOpenedTo name fresh core
  pub layout : core.layout ≡ Two

-- a store is made in memory and opened; the name that none has is a bad argument, before anything else
abbrev pub BeginsFresh : List ℕ → Result (OnDisk MemDisk) Fault → Type 0
BeginsFresh name (Ok core) = (is_name name ≡ true) × (disk : MemDisk) × IsFreshOver name disk core
BeginsFresh name (Err BadArguments) = is_name name ≡ false
BeginsFresh name (Err Device) = is_name name ≡ true
BeginsFresh name (Err NotAStore) = ⊥
BeginsFresh name (Err (Damaged at)) = ⊥
BeginsFresh name (Err BadEvent) = ⊥
BeginsFresh name (Err NoMemory) = is_name name ≡ true
BeginsFresh name (Err NotInDoubt) = ⊥
BeginsFresh name (Err NoRoom) = ⊥
