-- What is read of a store before its core is made.
use Rattle.std.specs.Prelude.{◌≡◌, ℕ, ◌-◌, ◌≤◌, Bool, IsTrue, List, length, string_bytes}
use Rattle.drda_disk.specs.Disk.{Life}
use Rattle.drda_disk.specs.Region.{end_of}
use Rattle.drda_disk.specs.declared.region.Region.{Region}
use Rattle.half_store.specs.Layout.{half_len}
use Rattle.unit_journal.specs.Journal.{IsSettled, held_of, region_of}
use Rattle.unit_journal.specs.Record.{Entry}
use Rattle.paged_tables.specs.PagedTables.{store_in}
use Rattle.paged_tables.specs.TablesByName.{AreOnPages, LieInside, LieOutside, Tables}
use Rattle.recovery.specs.Durable.{Durable}
use Rattle.recovery.specs.Laws.{held_for}
use Rattle.recovery.specs.Replay.{doubts_in}
use Rattle.recovery.specs.Sound.{IsSound}
use Rattle.recovery.specs.Opens.{Holds}
use Rattle.durable_core.specs.declared.reading.Found.{Found}

abbrev pub name_in : Found → List ℕ
name_in f = string_bytes f.name

abbrev pub durable_in : Found → Durable
durable_in f = record { store = store_in f.store; doubts = doubts_in f.units.items }

-- these records stand on the disk to stay, and lead to what was found
pub record StandsThere (modelled : Bool) (disk : Life) (f : Found) : Type 0 where
  pub entries : List Entry
  pub settled : IsSettled modelled disk f.journal entries
  pub holds : Holds (name_in f) f.layout (region_of f.journal) entries (durable_in f) disk.seen

-- the pages of tables lie in the half that a journal's region ends, in front of it, and stand there with their rows
pub record StandInFront (modelled : Bool) (seen : List ℕ) (region : Region) (tables : Tables) : Type 0 where
  pub inside : (size : ℕ) → region.at ≤ size → LieInside size tables
  pub apart : LieOutside 0 (end_of region - half_len (length seen)) tables
  pub stand : IsTrue modelled → AreOnPages seen tables

pub record IsFound (modelled : Bool) (disk : Life) (f : Found) : Type 0 where
  pub sound : IsSound (durable_in f)
  pub held : held_of f.journal ≡ held_for f.layout (durable_in f).doubts
  pub inside : end_of (region_of f.journal) ≤ length disk.seen
  pub stands : IsTrue modelled → StandsThere modelled disk f
  pub front : (region_of f.journal).at ≤ length disk.seen
  pub pages : StandInFront modelled disk.seen (region_of f.journal) f.store.tables
