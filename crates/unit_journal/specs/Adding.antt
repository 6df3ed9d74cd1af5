-- What the calls that begin a journal, or add to it, ask for and answer.
use Rattle.std.specs.Prelude.{◌≡◌, ℕ, ◌+◌, ◌^◌, ◌<◌, ◌≤◌, Bool, List, ◌++◌, length, Result, OnOk}
use Rattle.drda_disk.specs.Disk.{LeavesOnly, Life}
use Rattle.drda_disk.specs.Errors.{CountsWrite}
use Rattle.drda_disk.specs.Region.{SameOutside, end_of}
use Rattle.drda_disk.specs.declared.region.Region.{Region}
use Rattle.unit_journal.specs.Record.{Entry, laid}
use Rattle.unit_journal.specs.Stands.{IsBeforeOrAfterAll}
use Rattle.unit_journal.specs.Journal.{IsSettled, held_of, next_of, region_of, room_of}
use Rattle.unit_journal.specs.Errors.{SaysFull}
use Rattle.drda_disk.specs.declared.errors.WriteError.{WriteError}
use Rattle.unit_journal.specs.declared.journal.Journal.{Journal}

-- a region of a disk of this size may have a journal: it has a byte at least and 2^32 at most, and lies in the disk
pub record IsPlace (size : ℕ) (region : Region) : Type 0 where
  pub some : 0 < region.length
  pub small : region.length ≤ 2 ^ 32
  pub inside : end_of region ≤ size

-- a journal was laid with these records, and so many bytes held back
pub record IsLaidIn (region : Region) (es : List Entry) (held : ℕ) (journal : Journal) : Type 0 where
  pub region_is : region_of journal ≡ region
  pub next : next_of journal ≡ region.at + length (laid es)
  pub held_is : held_of journal ≡ held

-- records of so many bytes may be added, with so many bytes held back and released: the journal lies in a disk of this size
-- and holds back what is released
pub record MayAdd (size : ℕ) (journal : Journal) (bytes hold release : ℕ) : Type 0 where
  pub inside : end_of (region_of journal) ≤ size
  pub counted : bytes + hold < 2 ^ 64
  pub released : release ≤ held_of journal

-- they take that room
pub record Takes (old : Journal) (bytes hold release : ℕ) (new : Journal) : Type 0 where
  pub region : region_of new ≡ region_of old
  pub held : held_of new + release ≡ held_of old + hold
  pub room : room_of new + (bytes + hold) ≡ room_of old + release

-- What adding them makes of a disk and a journal. A crash at any moment leaves the records from before, with all of these or
-- without; `Full` is told exactly where they have no room, and a failure of the device is counted.
pub record Adds {T : Type 0} (modelled : Bool) (old new : Life) (before after : Journal) (gs : List Entry) (bytes hold release : ℕ) (result : Result T WriteError) : Type 0 where
  pub ok : (es : List Entry) → IsSettled modelled old before es → OnOk result (IsSettled modelled new after (es ++ gs))
  pub any_moment : (es : List Entry) → IsSettled modelled old before es → LeavesOnly old new (IsBeforeOrAfterAll (region_of before) old.seen es gs)
  pub others : SameOutside (region_of before) old.seen new.seen
  pub full : SaysFull result (bytes + hold) release (room_of before)
  pub cause : CountsWrite result old.faults new.faults
  pub takes : OnOk result (Takes before bytes hold release after)
