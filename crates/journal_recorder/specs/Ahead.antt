-- What becomes of a disk and its journal where records are laid ahead of being made, and where the disk settles.
use Rattle.std.specs.Prelude.{◌≡◌, ℕ, ◌+◌, ◌≤◌, Bool, true, IsTrue, List, [], map, refl}
use Rattle.std.specs.List.{AllByRecursion}
use Rattle.drda_disk.specs.Disk.{LeavesOnly, Life}
use Rattle.drda_disk.specs.Images.{Torn-refl}
use Rattle.drda_disk.specs.Region.{SameOutside}
use Rattle.drda_disk.proofs.Moments.{no_call}
use Rattle.unit_journal.specs.Journal.{region_of, room_of}
use Rattle.unit_journal.specs.Record.{Entry}
use Rattle.unit_journal.specs.Stands.{IsBeforeOrAfterAll}
use Rattle.unit_journal.specs.Staged.{MayOpenEarly}
use Rattle.unit_records.specs.Room.{held_by, released_by, taken_by}
use Rattle.unit_records.specs.Records.{IsGood, UnitRecord, entry_of}
use Rattle.journal_recorder.specs.Recording.{AreThere, disk_of, has_failed, journal_of, layout_of, made_of, staged_of}
use Rattle.journal_recorder.specs.declared.recorder.DiskRecorder.{DiskRecorder}

module _ {D : Type 0} (modelled : Bool) (life : D → Life) where
  abbrev life_of : DiskRecorder D → Life
  life_of r = life (disk_of r)

  -- a crash at any moment leaves the records from before, and no others
  abbrev pub LeavesNoMore : DiskRecorder D → DiskRecorder D → Type 0
  LeavesNoMore old new = (es : List Entry) → AreThere modelled life old es → LeavesOnly (life_of old) (life_of new) (IsBeforeOrAfterAll (region_of (journal_of old)) (life_of old).seen es [])

  -- all is as it was, but for bytes behind the records
  pub record LaysAhead (old new : DiskRecorder D) : Type 0 where
    pub there : (es : List Entry) → AreThere modelled life old es → AreThere modelled life new es
    pub moments : LeavesNoMore old new
    pub others : SameOutside (region_of (journal_of old)) (life_of old).seen (life_of new).seen
    pub journal : journal_of new ≡ journal_of old
    pub layout : layout_of new ≡ layout_of old
    pub faults : (life_of new).faults ≡ (life_of old).faults
    pub going : has_failed new ≡ has_failed old
    pub made : made_of new ≡ made_of old

  -- the device failed
  pub record FailsAhead (old new : DiskRecorder D) : Type 0 where
    pub moments : LeavesNoMore old new
    pub others : SameOutside (region_of (journal_of old)) (life_of old).seen (life_of new).seen
    pub journal : journal_of new ≡ journal_of old
    pub layout : layout_of new ≡ layout_of old
    pub faults : (life_of new).faults ≡ (life_of old).faults + 1
    pub failed : has_failed new ≡ true
    pub made : made_of new ≡ made_of old

  -- records that are good and have room may count on the device before they are made: the images that their gate leaves may be left
  abbrev pub AllowsEarly : (List ℕ → List ℕ → Type 0) → DiskRecorder D → List UnitRecord → Type 0
  AllowsEarly allows r records = IsTrue modelled → AllByRecursion IsGood records → taken_by records + held_by (layout_of r) records ≤ room_of (journal_of r) + released_by (layout_of r) records
      → MayOpenEarly modelled (life_of r) (staged_of r) (map entry_of records) allows

  -- nothing was laid
  pub nothing_laid : (r : DiskRecorder D) → LaysAhead r r
  nothing_laid r = record {
    there = λ es is. is;
    moments = λ es is. no_call (life_of r) (IsBeforeOrAfterAll (region_of (journal_of r)) (life_of r).seen es []) is.images;
    others = Torn-refl (region_of (journal_of r)).at (region_of (journal_of r)).length (life_of r).seen;
    journal = refl;
    layout = refl;
    faults = refl;
    going = refl;
    made = refl;
  }
