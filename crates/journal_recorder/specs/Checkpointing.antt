-- What becomes of a disk and its journal where a checkpoint is written.
use Rattle.std.specs.Prelude.{◌≡◌, ◌⊎◌, ◌<◌, ◌≤◌, ℕ, ◌+◌, ◌^◌, Bool, true, false, IsTrue, List, length, Result, Ok, Err}
use Rattle.drda_disk.specs.Disk.{LeavesOnly, Life, Stays}
use Rattle.drda_disk.specs.Region.{end_of}
use Rattle.half_store.specs.Active.{Store}
use Rattle.half_store.specs.Layout.{half_len}
use Rattle.half_store.specs.declared.header.Layout.TheVariants.{Two}
use Rattle.row_pages.specs.Laying.{counted}
use Rattle.tables.specs.Tables.{Store as Tables}
use Rattle.unit_journal.specs.Journal.{IsSettled, held_of, region_of, room_of}
use Rattle.unit_journal.specs.declared.journal.Journal.{Journal}
use Rattle.unit_journal.specs.Record.{Entry}
use Rattle.unit_journal.specs.Staged.{IsAtRest}
use Rattle.unit_records.specs.Records.{UnitRecord}
use Rattle.unit_records.specs.Room.{held, taken}
use Rattle.store_check.specs.Holds.{half_end, journal_at}
use Rattle.store_check.specs.Moment.{GoesOn, IsNew, Moment, Rests}
use Rattle.store_check.specs.Room.{need_of}
use Rattle.journal_recorder.specs.Recording.{disk_of, has_failed, journal_of, layout_of, made_of, staged_of}
use Rattle.journal_recorder.specs.declared.checkpointing.CheckpointError.{CheckpointError}
use Rattle.journal_recorder.specs.declared.checkpointing.CheckpointError.TheVariants.{DeviceFailed, Full, NoMemory}
use Rattle.journal_recorder.specs.declared.recorder.DiskRecorder.{DiskRecorder}

-- The other half is the active one, to stay, with these tables and these records, and the journal goes on behind them: its room is
-- what all of it leaves of the half.
pub record IsSwitched (modelled : Bool) (disk : Life) (base : List ℕ) (store : Store) (tables : Tables) (es : List Entry) (held : ℕ) (journal : Journal) : Type 0 where
  pub is : IsNew base store tables es held disk.seen
  pub settled : IsSettled modelled disk journal es
  pub begins : (region_of journal).at ≡ journal_at (length disk.seen) is.new
  pub ends : end_of (region_of journal) ≡ half_end (length disk.seen) is.new
  pub leaves : room_of journal + need_of tables es held ≡ half_len (length base)

module _ {D : Type 0} (modelled : Bool) (life : D → Life) where
  abbrev pub disk_life : DiskRecorder D → Life
  disk_life r = life (disk_of r)

  -- a crash leaves what is read, which is a store with this active half, and the journal ends where that half does
  pub record RestsWith (r : DiskRecorder D) (store : Store) : Type 0 where
    pub rests : Rests modelled (disk_life r) store
    pub journal : end_of (region_of (journal_of r)) ≡ half_end (length (disk_life r).seen) store

  -- what is said of that store
  abbrev pub OfStore : DiskRecorder D → (Store → Type 0) → Type 0
  OfStore r P = (store : Store) → RestsWith r store → P store

  -- there is one, if the disk gives back what was written
  abbrev pub HasStore : DiskRecorder D → Type 0
  HasStore r = IsTrue modelled → (store : Store) × RestsWith r store

  -- a crash at any moment leaves the old half, or the new one, with room for so many bytes that are held back
  abbrev pub LeavesOldOrNew : DiskRecorder D → Tables → List Entry → ℕ → DiskRecorder D → Type 0
  LeavesOldOrNew old tables es hold new = OfStore old (λ store. LeavesOnly (disk_life old) (disk_life new) (Moment (disk_life old).seen store tables es hold))

  -- the records that were made stay, and so does the size of the disk; the journal is at rest
  pub record StaysOn (old new : DiskRecorder D) : Type 0 where
    pub size : length (disk_life new).seen ≡ length (disk_life old).seen
    pub rest : IsAtRest (staged_of new)
    pub made : made_of new ≡ made_of old

  -- what is recorded next stands in layout 2
  pub record Switches (old : DiskRecorder D) (tables : Tables) (es : List Entry) (hold : ℕ) (new : DiskRecorder D) : Type 0 where
    pub stays : StaysOn old new
    pub moments : LeavesOldOrNew old tables es hold new
    pub switched : OfStore old (λ store. IsSwitched modelled (disk_life new) (disk_life old).seen store tables es hold (journal_of new))
    pub held : held_of (journal_of new) ≡ hold
    pub layout : layout_of new ≡ Two
    pub inside : end_of (region_of (journal_of new)) ≤ length (disk_life new).seen
    pub faults : (disk_life new).faults ≡ (disk_life old).faults
    pub going : has_failed new ≡ false

  -- nothing is switched, and the old half goes on
  pub record KeepsOld (old : DiskRecorder D) (tables : Tables) (es : List Entry) (hold : ℕ) (new : DiskRecorder D) : Type 0 where
    pub stays : StaysOn old new
    pub moments : LeavesOldOrNew old tables es hold new
    pub goes_on : OfStore old (λ store. GoesOn (disk_life new) (disk_life old).seen store)
    pub journal : journal_of new ≡ journal_of old
    pub layout : layout_of new ≡ layout_of old
    pub faults : (disk_life new).faults ≡ (disk_life old).faults
    pub going : has_failed new ≡ false

  -- The device failed: either half may be the active one when the store is opened again. One that does not give back what
  -- was written counts as failed too, at a page of the tables that is none any more.
  pub record LeavesOpen (old : DiskRecorder D) (tables : Tables) (es : List Entry) (hold : ℕ) (new : DiskRecorder D) : Type 0 where
    pub stays : StaysOn old new
    pub moments : LeavesOldOrNew old tables es hold new
    pub journal : journal_of new ≡ journal_of old
    pub layout : layout_of new ≡ layout_of old
    pub faults : OfStore old (λ store. (disk_life new).faults ≡ (disk_life old).faults + 1)
    pub at_most : ((disk_life new).faults ≡ (disk_life old).faults + 1) ⊎ ((disk_life new).faults ≡ (disk_life old).faults)
    pub failed : has_failed new ≡ true

  -- The half is too short for the header, the pages, the records, the bytes held and a gate. How many bytes they are is told,
  -- up to the greatest number of 64 bits, and how many the half has; nothing was written.
  pub record LacksRoom (old : DiskRecorder D) (tables : Tables) (es : List Entry) (hold need room : ℕ) (new : DiskRecorder D) : Type 0 where
    pub less : half_len (length (disk_life old).seen) < need_of tables es hold
    pub needed : need ≡ counted (need_of tables es hold)
    pub has : room ≡ half_len (length (disk_life old).seen)
    pub unwritten : Stays (disk_life old) (disk_life new)

  abbrev pub Checkpoints : {T : Type 0} → DiskRecorder D → Tables → List Entry → ℕ → Result T CheckpointError → DiskRecorder D → Type 0
  Checkpoints old tables es hold (Ok x) new = Switches old tables es hold new
  Checkpoints old tables es hold (Err NoMemory) new = KeepsOld old tables es hold new
  Checkpoints old tables es hold (Err (Full need room)) new = KeepsOld old tables es hold new × OfStore old (λ store. LacksRoom old tables es hold need room new)
  Checkpoints old tables es hold (Err DeviceFailed) new = LeavesOpen old tables es hold new

-- no record is made: with what it holds back in layout 2 it has 2^32 bytes or more, or there is no memory
abbrev pub IsTooLong : UnitRecord → CheckpointError → Type 0
IsTooLong said (Full need room) = 2 ^ 32 ≤ taken said + held Two said
IsTooLong said NoMemory = Unit {0}
IsTooLong said DeviceFailed = ⊥
