-- What a journal shows.
use Rattle.std.specs.Prelude.{◌≡◌, ℕ, ◌+◌, ◌-◌, Bool, IsTrue, List, length}
use Rattle.drda_disk.specs.Disk.{Life, Only}
use Rattle.drda_disk.specs.Region.{end_of}
use Rattle.drda_disk.specs.declared.region.Region.{Region}
use Rattle.unit_journal.specs.Record.{Entry, laid}
use Rattle.unit_journal.specs.Stands.{Stands}
use Rattle.unit_journal.specs.declared.journal.Journal.{Journal}

abbrev pub region_of : Journal → Region
region_of journal = journal.region

-- the offset of the closed gate behind the last record
abbrev pub next_of : Journal → ℕ
next_of journal = journal.next

-- how many bytes are held back
abbrev pub held_of : Journal → ℕ
held_of journal = journal.held

-- how many bytes are left for records
abbrev pub room_of : Journal → ℕ
room_of journal = end_of (region_of journal) - next_of journal - 1 - held_of journal

-- these records are on the disk to stay, and the journal goes on behind them
pub record IsSettled (modelled : Bool) (disk : Life) (journal : Journal) (es : List Entry) : Type 0 where
  pub modelled_disk : IsTrue modelled
  pub durable : Only disk
  pub stands : Stands (region_of journal) es disk.seen
  pub next : next_of journal ≡ (region_of journal).at + length (laid es)
