-- What making and opening the store of a path come to.
use Rattle.std.specs.Prelude.{◌≡◌, ◌⊎◌, ℕ, Bool, IsTrue, List, length, Some, None, Result, Ok, Err}
use Rattle.drda_disk.specs.Disk.{LeavesOnly, Life, Only, Stays}
use Rattle.half_store.specs.Fresh.{IsFresh, IsNoneOrFresh}
use Rattle.recovery.specs.Durable.{Durable}
use Rattle.recovery.specs.Opens.{OpensTo}
use Rattle.recovery.specs.Journaled.{OnDisk}
use Rattle.durable_core.specs.Opening.{IsOpenedTo, SettlesFirst, StoodThere}
use Rattle.durable_core.specs.Reads.{IsExcused, TellsNoStore}
use Rattle.durable_core.specs.declared.errors.OpenError.{OpenError}
use Rattle.store_files.specs.Endings.{fault_for}
use Rattle.store_files.specs.Files.{FileCalls}
use Rattle.store_files.specs.Stores.{RefusesName}
use Rattle.store_files.specs.declared.fault.Fault.{Fault}
use Rattle.store_files.specs.declared.fault.Fault.TheVariants.{Device}

-- ---- a disk, of which no more than this is known unless it gives back what was written

module _ {D : Type 0} (modelled : Bool) (life : D → Life) where
  -- a core over the store that the disk is: what stood there, and nothing else; nothing was written, and no device call failed
  pub record IsOver (disk : D) (core : OnDisk D) : Type 0 where
    pub stood : IsTrue modelled → StoodThere (life disk).seen core
    pub finds : (name : List ℕ) (d : Durable) → IsTrue modelled → OpensTo name d (life disk).seen → IsOpenedTo name d core
    pub stays : Stays (life disk) (life core.disk)
    pub quiet : (life core.disk).faults ≡ (life disk).faults

  -- Why a disk is not opened. That it is no store, or damaged at an offset, is reported where it is so, and of no disk that
  -- opens to a state.
  pub record IsRefused (disk : D) (fault : Fault) : Type 0 where
    pub error : OpenError
    pub reported : fault ≡ fault_for error
    pub is : IsTrue modelled → TellsNoStore error (life disk).seen
    pub excused : (name : List ℕ) (d : Durable) → IsTrue modelled → OpensTo name d (life disk).seen → IsExcused error

  abbrev pub IsOpened : D → Result (OnDisk D) Fault → Type 0
  IsOpened disk (Ok core) = IsOver disk core
  IsOpened disk (Err fault) = IsRefused disk fault

  -- where it was opened, its first device call was a sync
  abbrev pub HasSettled : (D → Bool → D → Type 0) → D → Result (OnDisk D) Fault → Type 0
  HasSettled syncs disk (Ok core) = SettlesFirst life syncs disk core.disk
  HasSettled syncs disk (Err fault) = Unit {0}

  -- ---- the disk of a path

  module _ {F : Type 0} (calls : FileCalls F D) where
    -- it is opened, or there is none
    abbrev pub OpensStore : F → List ℕ → Result (OnDisk D) Fault → F → Type 0
    OpensStore files path result files' = (calls.opens files path None files' × (result ≡ Err Device))
        ⊎ ((disk : D) × calls.opens files path (Some disk) files' × IsOpened disk result)

    -- the same, and its first device call was a sync
    abbrev pub OpensSettled : (D → Bool → D → Type 0) → F → List ℕ → Result (OnDisk D) Fault → F → Type 0
    OpensSettled syncs files path result files' = (calls.opens files path None files' × (result ≡ Err Device))
        ⊎ ((disk : D) × calls.opens files path (Some disk) files' × IsOpened disk result × HasSettled syncs disk result)

    -- nothing is served: its store is not opened, or the store's name is none of a database, or memory was refused
    abbrev pub IsTurnedBack : F → List ℕ → Fault → F → Type 0
    IsTurnedBack files path fault files' = OpensStore files path (Err fault) files'
        ⊎ ((disk : D) × calls.opens files path (Some disk) files' × (core : OnDisk D) × IsOver disk core × RefusesName core.name fault)

    -- no file is left: none was made, or it is removed again
    abbrev pub LeavesNone : F → List ℕ → ℕ → F → Type 0
    LeavesNone files path size files' = calls.creates files path size None files'
        ⊎ ((made : D) × (mid : F) × calls.creates files path size (Some made) mid × calls.discards mid path files')

    -- the disk that was made at the path is a fresh store of this size and name now; a crash on the way left no store or this
    pub record IsMade (files : F) (path : List ℕ) (size : ℕ) (rdb : List ℕ) (files' : F) : Type 0 where
      pub made : D
      pub created : calls.creates files path size (Some made) files'
      pub disk : D
      pub sized : length (life disk).seen ≡ size
      pub only : IsTrue modelled → Only (life disk)
      pub store : IsTrue modelled → IsFresh rdb (life disk).seen
      pub moments : IsTrue modelled → LeavesOnly (life made) (life disk) (IsNoneOrFresh rdb)
