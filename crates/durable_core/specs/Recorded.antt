-- What holds of every core over a disk.
use Rattle.std.specs.Prelude.{◌≡◌, ℕ, ◌≤◌, Bool, false, IsTrue, List, [], length}
use Rattle.drda_disk.specs.Disk.{Life}
use Rattle.drda_disk.specs.Region.{end_of}
use Rattle.unit_journal.specs.Journal.{held_of, region_of, room_of}
use Rattle.unit_journal.specs.Record.{Entry}
use Rattle.recovery.specs.Laws.{held_for}
use Rattle.core_model.specs.Step.{CoreState}
use Rattle.recovery.specs.Kept.{IsKept}
use Rattle.recovery.specs.Part.{durable_part}
use Rattle.journal_recorder.specs.Recording.{AreThere, disk_of, has_failed, journal_of, layout_of, made_of}
use Rattle.journal_recorder.specs.declared.recorder.DiskRecorder.{DiskRecorder}
use Rattle.recovery.specs.Opens.{Holds}
use Rattle.recovery.specs.Journaled.{OnDisk}

-- what is seen of a core, by its name, its state and who records
abbrev pub core_on : {D : Type 0} → List ℕ → CoreState → DiskRecorder D → OnDisk D
core_on name state r = record { name = name; state = state; disk = disk_of r; layout = layout_of r; room = room_of (journal_of r); is_failed = has_failed r; made = made_of r }

module _ {D : Type 0} (modelled : Bool) (life : D → Life) where
  -- the records on the disk, which are there to stay, lead to what is durable of the core, and none is begun
  pub record IsOnDisk (name : List ℕ) (state : CoreState) (r : DiskRecorder D) : Type 0 where
    pub entries : List Entry
    pub settled : AreThere modelled life r entries
    pub holds : Holds name (layout_of r) (region_of (journal_of r)) entries (durable_part state) (life (disk_of r)).seen
    pub none_begun : (made_of r).begun ≡ []

  -- The core is kept, and its journal, which lies in the disk, holds back what its branches in doubt do by its layout. Until the
  -- device fails, all that is durable of it is on the disk.
  pub record IsRecorded (name : List ℕ) (state : CoreState) (r : DiskRecorder D) : Type 0 where
    pub kept : IsKept state
    pub held : held_of (journal_of r) ≡ held_for (layout_of r) (durable_part state).doubts
    pub inside : end_of (region_of (journal_of r)) ≤ length (life (disk_of r)).seen
    pub on_disk : IsTrue modelled → has_failed r ≡ false → IsOnDisk name state r
