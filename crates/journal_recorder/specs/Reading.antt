-- Which tables' pages a recorder can read, and what a read makes of it.
use Rattle.std.specs.Prelude.{◌≡◌, ◌⊎◌, ◌+◌, ◌-◌, Bool, true, false, IsTrue, List, length}
use Rattle.drda_disk.specs.Disk.{Life, Stays}
use Rattle.drda_disk.specs.Region.{end_of}
use Rattle.half_store.specs.Layout.{half_len}
use Rattle.row_pages.specs.declared.kept.PageFault.{PageFault}
use Rattle.row_pages.specs.declared.kept.PageFault.TheVariants as fault
use Rattle.ahead_view.specs.declared.source.ReadError.{ReadError}
use Rattle.ahead_view.specs.declared.source.ReadError.TheVariants as read
use Rattle.paged_tables.specs.TablesByName.{AreOnPages, LieInside, LieOutside, PagesStay, Tables}
use Rattle.unit_journal.specs.Journal.{region_of}
use Rattle.unit_records.specs.Records.{UnitRecord}
use Rattle.unit_records.specs.declared.record_error.RecordError.{RecordError}
use Rattle.journal_recorder.specs.Ahead.{FailsAhead, LaysAhead}
use Rattle.journal_recorder.specs.Recording.{AreLeftOpen, Fails, Records, RecordsAll, disk_of, has_failed, journal_of, layout_of, made_of, staged_of}
use Rattle.journal_recorder.specs.declared.recorder.DiskRecorder.{DiskRecorder}

-- why nothing was read, and what becomes of the recorder
abbrev pub Remembers : {D : Type 0} → DiskRecorder D → PageFault → ReadError → DiskRecorder D → Type 0
Remembers old fault.NoMemory error new = (error ≡ read.NoMemory) × (new ≡ old)
Remembers old fault.DeviceFailed error new = (error ≡ read.DeviceFailed) × (new ≡ record old { is_failed = true })
Remembers old fault.Damaged error new = (error ≡ read.DeviceFailed) × (new ≡ record old { is_failed = true })

module _ {D : Type 0} (modelled : Bool) (life : D → Life) where
  -- The pages of tables can be read: they lie inside of the disk. Of a disk that gives back what was written they lie in
  -- the journal's half in front of it, and until the device fails they stand there with their rows.
  pub record HasPages (r : DiskRecorder D) (tables : Tables) : Type 0 where
    pub inside : LieInside (length (life (disk_of r)).seen) tables
    pub front : IsTrue modelled → LieInside (region_of (journal_of r)).at tables
    pub behind : IsTrue modelled → LieOutside 0 (end_of (region_of (journal_of r)) - half_len (length (life (disk_of r)).seen)) tables
    pub stand : IsTrue modelled → has_failed r ≡ false → AreOnPages (life (disk_of r)).seen tables

  -- a read was answered, or memory was refused in it: nothing is written, and no call failed
  pub record Reads (old new : DiskRecorder D) : Type 0 where
    pub stays : Stays (life (disk_of old)) (life (disk_of new))
    pub faults : (life (disk_of new)).faults ≡ (life (disk_of old)).faults
    pub staged : staged_of new ≡ staged_of old
    pub layout : layout_of new ≡ layout_of old
    pub made : made_of new ≡ made_of old
    pub failed : has_failed new ≡ has_failed old
    pub pages : (tables : Tables) → HasPages old tables → HasPages new tables

  -- The device failed in a read, or had failed before, or gave back what is no page, or rows that are none of their table,
  -- which one that gives back what was written does not.
  pub record FailsToRead (old new : DiskRecorder D) : Type 0 where
    pub stays : Stays (life (disk_of old)) (life (disk_of new))
    pub faults : IsTrue modelled → has_failed old ≡ false → (life (disk_of new)).faults ≡ (life (disk_of old)).faults + 1
    pub at_most : ((life (disk_of new)).faults ≡ (life (disk_of old)).faults + 1) ⊎ ((life (disk_of new)).faults ≡ (life (disk_of old)).faults)
    pub staged : staged_of new ≡ staged_of old
    pub layout : layout_of new ≡ layout_of old
    pub made : made_of new ≡ made_of old
    pub failed : has_failed new ≡ true
    pub pages : (tables : Tables) → HasPages old tables → HasPages new tables

  -- ---- laws

  -- tables whose pages can be read are so behind a record that is made or left open, behind what is laid ahead, and behind
  -- changes in memory
  pub record PagesAreKept : Type 0 where
    pub recorded : (old : DiskRecorder D) (said : UnitRecord) (new : DiskRecorder D) (tables : Tables) → Records modelled life old said new → HasPages old tables → HasPages new tables
    pub failed : (old : DiskRecorder D) (said : UnitRecord) (error : RecordError) (new : DiskRecorder D) (tables : Tables) → Fails modelled life old said error new → HasPages old tables → HasPages new tables
    pub all_recorded : (old : DiskRecorder D) (records : List UnitRecord) (new : DiskRecorder D) (tables : Tables) → RecordsAll modelled life old records new → HasPages old tables → HasPages new tables
    pub all_left_open : (old : DiskRecorder D) (records : List UnitRecord) (new : DiskRecorder D) (tables : Tables) → AreLeftOpen modelled life old records new → HasPages old tables → HasPages new tables
    pub changed : (r : DiskRecorder D) (old new : Tables) → PagesStay old new → HasPages r old → HasPages r new
    pub laid_ahead : (old new : DiskRecorder D) (tables : Tables) → LaysAhead modelled life old new → HasPages old tables → HasPages new tables
    pub not_laid : (old new : DiskRecorder D) (tables : Tables) → FailsAhead modelled life old new → HasPages old tables → HasPages new tables
