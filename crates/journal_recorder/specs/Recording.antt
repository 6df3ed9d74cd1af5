-- What becomes of a disk and its journal where a unit is recorded.
use Rattle.std.specs.Prelude.{◌≡◌, ℕ, ◌+◌, ◌-◌, ◌^◌, ◌<◌, ◌≤◌, Bool, true, false, List, [], ◌∷◌, ◌++◌, length, map, min}
use Rattle.std.specs.List.{AllByRecursion}
use Rattle.drda_disk.specs.Disk.{LeavesOnly, Life}
use Rattle.drda_disk.specs.Region.{SameOutside, end_of}
use Rattle.half_store.specs.declared.header.Layout.{Layout}
use Rattle.unit_journal.specs.declared.journal.Journal.{Journal}
use Rattle.unit_journal.specs.Journal.{held_of, region_of, room_of}
use Rattle.unit_journal.specs.Record.{Entry}
use Rattle.unit_journal.specs.Staged.{IsUnderWay}
use Rattle.unit_journal.specs.declared.staged.Staged.{Staged}
use Rattle.unit_journal.specs.Stands.{IsBeforeOrAfter, IsBeforeOrAfterAll}
use Rattle.unit_records.specs.MadeRecords.{MadeRecords, with_begun, with_done}
use Rattle.unit_records.specs.Records.{IsGood, UnitRecord, entry_of}
use Rattle.unit_records.specs.Room.{held, held_by, released, released_by, taken, taken_by}
use Rattle.unit_records.specs.declared.record_error.RecordError.{RecordError}
use Rattle.unit_records.specs.declared.record_error.RecordError.TheVariants.{DeviceFailed, Full, NoMemory}
use Rattle.journal_recorder.specs.declared.recorder.DiskRecorder.{DiskRecorder}

-- its journal, with what was laid behind it
abbrev pub staged_of : {D : Type 0} → DiskRecorder D → Staged
staged_of r = r.staged

-- the journal alone, which ends in front of that
abbrev pub journal_of : {D : Type 0} → DiskRecorder D → Journal
journal_of r = r.staged.journal

abbrev pub disk_of : {D : Type 0} → DiskRecorder D → D
disk_of r = r.pager

-- its journal's layout, by which bytes are held back and released
abbrev pub layout_of : {D : Type 0} → DiskRecorder D → Layout
layout_of r = r.layout

-- the device has failed
abbrev pub has_failed : {D : Type 0} → DiskRecorder D → Bool
has_failed r = r.is_failed

-- the records that it made, and those that it began
abbrev pub made_of : {D : Type 0} → DiskRecorder D → MadeRecords
made_of r = r.made.groups.value

module _ {D : Type 0} (modelled : Bool) (life : D → Life) where
  abbrev pub life_of : DiskRecorder D → Life
  life_of r = life (disk_of r)

  -- these records are there to stay: a crash leaves them and no others, whatever was laid ahead behind them
  abbrev pub AreThere : DiskRecorder D → List Entry → Type 0
  AreThere r es = IsUnderWay modelled (life_of r) (staged_of r) es

  -- it can record: the device has not failed, and what is released is held
  pub record Allows (r : DiskRecorder D) (said : UnitRecord) : Type 0 where
    pub going : has_failed r ≡ false
    pub inside : end_of (region_of (journal_of r)) ≤ length (life_of r).seen
    pub released_is_held : released (layout_of r) said ≤ held_of (journal_of r)

  -- a crash at any moment leaves the records from before, with this one or without
  abbrev pub LeavesOneMore : DiskRecorder D → UnitRecord → DiskRecorder D → Type 0
  LeavesOneMore old said new = (es : List Entry) → AreThere old es
      → LeavesOnly (life_of old) (life_of new) (IsBeforeOrAfter (region_of (journal_of old)) (life_of old).seen es (entry_of said))

  pub record Records (old : DiskRecorder D) (said : UnitRecord) (new : DiskRecorder D) : Type 0 where
    pub good : IsGood said
    pub settled : (es : List Entry) → AreThere old es → AreThere new (es ++ entry_of said ∷ [])
    pub moments : LeavesOneMore old said new
    pub others : SameOutside (region_of (journal_of old)) (life_of old).seen (life_of new).seen
    pub region : region_of (journal_of new) ≡ region_of (journal_of old)
    pub layout : layout_of new ≡ layout_of old
    pub room : room_of (journal_of new) + (taken said + held (layout_of old) said) ≡ room_of (journal_of old) + released (layout_of old) said
    pub held : held_of (journal_of new) + released (layout_of old) said ≡ held_of (journal_of old) + held (layout_of old) said
    pub faults : (life_of new).faults ≡ (life_of old).faults
    pub was_going : has_failed old ≡ false
    pub going : has_failed new ≡ false
    pub made : made_of new ≡ with_done (made_of old) ((entry_of said ∷ []) ∷ [])

  -- the record and what it holds back are longer than the room and what it releases; what is needed stops at 2^64 - 1
  pub record HasNoRoom (old : DiskRecorder D) (said : UnitRecord) (need room : ℕ) : Type 0 where
    pub need_is : need ≡ min (taken said + held (layout_of old) said - released (layout_of old) said) (2 ^ 64 - 1)
    pub room_is : room ≡ room_of (journal_of old)
    pub less : room_of (journal_of old) + released (layout_of old) said < taken said + held (layout_of old) said

  -- it was begun: whether it is there shows when the store is opened again
  pub record IsLeftOpen (old : DiskRecorder D) (said : UnitRecord) (new : DiskRecorder D) : Type 0 where
    pub good : IsGood said
    pub fits : taken said + held (layout_of old) said ≤ room_of (journal_of old) + released (layout_of old) said
    pub moments : LeavesOneMore old said new
    pub others : SameOutside (region_of (journal_of old)) (life_of old).seen (life_of new).seen
    pub journal : journal_of new ≡ journal_of old
    pub layout : layout_of new ≡ layout_of old
    pub faults : (life_of new).faults ≡ (life_of old).faults + 1
    pub failed : has_failed new ≡ true
    pub begun : made_of new ≡ with_begun (made_of old) ((entry_of said ∷ []) ∷ [])

  abbrev pub Fails : DiskRecorder D → UnitRecord → RecordError → DiskRecorder D → Type 0
  Fails old said NoMemory new = new ≡ old
  Fails old said (Full need room) new = (new ≡ old) × HasNoRoom old said need room
  Fails old said DeviceFailed new = IsLeftOpen old said new

  -- ---- records that are made together

  -- it can record, and all that is released together is held
  pub record AllowsAll (r : DiskRecorder D) (records : List UnitRecord) : Type 0 where
    pub going : has_failed r ≡ false
    pub inside : end_of (region_of (journal_of r)) ≤ length (life_of r).seen
    pub released_is_held : released_by (layout_of r) records ≤ held_of (journal_of r)

  -- a crash at any moment leaves the records from before, with all of these or without
  abbrev pub LeavesAllMore : DiskRecorder D → List UnitRecord → DiskRecorder D → Type 0
  LeavesAllMore old records new = (es : List Entry) → AreThere old es
      → LeavesOnly (life_of old) (life_of new) (IsBeforeOrAfterAll (region_of (journal_of old)) (life_of old).seen es (map entry_of records))

  pub record RecordsAll (old : DiskRecorder D) (records : List UnitRecord) (new : DiskRecorder D) : Type 0 where
    pub good : AllByRecursion IsGood records
    pub settled : (es : List Entry) → AreThere old es → AreThere new (es ++ map entry_of records)
    pub moments : LeavesAllMore old records new
    pub others : SameOutside (region_of (journal_of old)) (life_of old).seen (life_of new).seen
    pub region : region_of (journal_of new) ≡ region_of (journal_of old)
    pub layout : layout_of new ≡ layout_of old
    pub room : room_of (journal_of new) + (taken_by records + held_by (layout_of old) records) ≡ room_of (journal_of old) + released_by (layout_of old) records
    pub held : held_of (journal_of new) + released_by (layout_of old) records ≡ held_of (journal_of old) + held_by (layout_of old) records
    pub faults : (life_of new).faults ≡ (life_of old).faults
    pub was_going : has_failed old ≡ false
    pub going : has_failed new ≡ false
    pub made : made_of new ≡ with_done (made_of old) (map entry_of records ∷ [])

  -- they were begun: whether they are there, all or none, shows when the store is opened again
  pub record AreLeftOpen (old : DiskRecorder D) (records : List UnitRecord) (new : DiskRecorder D) : Type 0 where
    pub good : AllByRecursion IsGood records
    pub fits : taken_by records + held_by (layout_of old) records ≤ room_of (journal_of old) + released_by (layout_of old) records
    pub moments : LeavesAllMore old records new
    pub others : SameOutside (region_of (journal_of old)) (life_of old).seen (life_of new).seen
    pub journal : journal_of new ≡ journal_of old
    pub layout : layout_of new ≡ layout_of old
    pub faults : (life_of new).faults ≡ (life_of old).faults + 1
    pub failed : has_failed new ≡ true
    pub begun : made_of new ≡ with_begun (made_of old) (map entry_of records ∷ [])
