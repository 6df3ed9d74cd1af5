-- What opening a store answers.
use Rattle.std.specs.Prelude.{◌≡◌, ◌⊎◌, ℕ, ◌+◌, Bool, true, false, List, length, Result, Ok, Err}
use Rattle.drda_disk.specs.Disk.{Life, Only, Stays}
use Rattle.drda_disk.specs.declared.region.Region.{Region}
use Rattle.unit_journal.specs.Record.{Entry, laid}
use Rattle.unit_records.specs.MadeRecords.{none_made}
use Rattle.recovery.specs.Durable.{Durable}
use Rattle.recovery.specs.Laws.{held_for}
use Rattle.recovery.specs.Part.{opened}
use Rattle.recovery.specs.Opens.{Holds}
use Rattle.recovery.specs.Journaled.{OnDisk}
use Rattle.durable_core.specs.Reads.{CountsError, IsExcused, TellsNoStore}
use Rattle.durable_core.specs.declared.errors.OpenError.{OpenError}
use Rattle.durable_core.specs.declared.errors.OpenError.TheVariants.{DeviceFailed}
use Rattle.durable_core.specs.declared.errors.Refused.{Refused}

-- the disk, which each answer hands on
abbrev pub disk_in : {D : Type 0} → Result (OnDisk D) (Refused D) → D
disk_in (Ok core) = core.disk
disk_in (Err refused) = refused.disk

-- The first device call was a sync, and nothing was read before it: from then on a crash leaves what is read. Behind it nothing was
-- written.
pub record SettlesFirst {D : Type 0} (life : D → Life) (syncs : D → Bool → D → Type 0) (old new : D) : Type 0 where
  pub synced : D
  pub call : syncs old true synced
  pub unwritten : Stays (life old) (life synced)
  pub only : Only (life synced)
  pub reads_on : Stays (life synced) (life new)

-- The first device call was a sync, which failed, and that is told: no other call was made, so nothing was read.
pub record FailsToSync {D : Type 0} (syncs : D → Bool → D → Type 0) (error : OpenError) (old new : D) : Type 0 where
  pub told : error ≡ DeviceFailed
  pub call : syncs old false new

-- an opening begins with a sync
abbrev pub SyncsFirst : {D : Type 0} → (D → Life) → (D → Bool → D → Type 0) → D → Result (OnDisk D) (Refused D) → Type 0
SyncsFirst life syncs old (Ok core) = SettlesFirst life syncs old core.disk
SyncsFirst life syncs old (Err refused) = SettlesFirst life syncs old refused.disk ⊎ FailsToSync syncs refused.error old refused.disk

-- the core has this name, and these tables and units in doubt, and nothing else; its device has not failed
pub record IsOpenedTo {D : Type 0} (name : List ℕ) (d : Durable) (core : OnDisk D) : Type 0 where
  pub named : core.name ≡ name
  pub state : core.state ≡ opened d
  pub going : core.is_failed ≡ false
  pub made : core.made ≡ none_made

-- just this is opened, or memory or the device is told
abbrev pub Finds : {D : Type 0} → List ℕ → Durable → Result (OnDisk D) (Refused D) → Type 0
Finds name d (Ok core) = IsOpenedTo name d core
Finds name d (Err refused) = IsExcused refused.error

-- What is opened stood there. Its room is what the records leave of the journal behind the next gate, less the bytes
-- that are held back for the branches in doubt.
pub record StoodThere {D : Type 0} (image : List ℕ) (core : OnDisk D) : Type 0 where
  pub durable : Durable
  pub region : Region
  pub entries : List Entry
  pub stood : Holds core.name core.layout region entries durable image
  pub is : IsOpenedTo core.name durable core
  pub room : core.room + (length (laid entries) + 1 + held_for core.layout durable.doubts) ≡ region.length

-- the device has failed once more exactly where that is told
abbrev pub CountsOpen : {D : Type 0} → Result (OnDisk D) (Refused D) → ℕ → ℕ → Type 0
CountsOpen (Ok core) old new = new ≡ old
CountsOpen (Err refused) old new = CountsError refused.error old new

-- an image is no store where that is told
abbrev pub OpensStore : {D : Type 0} → Result (OnDisk D) (Refused D) → List ℕ → Type 0
OpensStore (Ok core) image = Unit {0}
OpensStore (Err refused) image = TellsNoStore refused.error image
