-- What is told of the store of a path.
use Rattle.std.specs.Prelude.{◌≡◌, ◌⊎◌, ℕ, Bool, IsTrue, List, length, codes, Option, Some, Result, Ok, Err}
use Rattle.std.specs.Io.KnownBytes.{Appends}
use Rattle.drda_disk.specs.Disk.{Life}
use Rattle.recovery.specs.Durable.{Durable}
use Rattle.durable_core.specs.Gauging.{IsGauge}
use Rattle.turns.specs.declared.gauge.Gauge.{Gauge}
use Rattle.recovery.specs.Journaled.{OnDisk, shown_on}
use Rattle.recovery.specs.Opens.{OpensTo}
use Rattle.store_files.specs.Files.{FileCalls}
use Rattle.store_files.specs.Opening.{IsOver, OpensStore}
use Rattle.store_files.specs.declared.fault.Fault.{Fault}
use Rattle.store_files.specs.declared.fault.Fault.TheVariants.{Device, NoMemory}
use Rattle.told_stores.specs.Doubts.{AreDoubts, Listed, doubt_text}
use Rattle.told_stores.specs.Rooms.{room_text}

module _ {D : Type 0} (modelled : Bool) (life : D → Life) where
  -- a line for each unit in doubt
  abbrev pub IsOfDoubts : D → List ℕ → Type 0
  IsOfDoubts disk text = (doubts : List Listed) × (text ≡ doubt_text doubts) × (IsTrue modelled → AreDoubts doubts (life disk).seen)

  -- The name and the size of the store that a disk is, how full it is, and how many units are in doubt.
  abbrev pub IsOfRoom : D → List ℕ → Type 0
  IsOfRoom disk text = (core : OnDisk D) × IsOver modelled life disk core × (doubts : List Listed)
      × (gauge : Gauge) × (text ≡ room_text core.name (length (life disk).seen) gauge (length doubts)) × (gauge.room ≡ core.room)
      × (IsTrue modelled → IsGauge (shown_on life core) gauge) × (IsTrue modelled → AreDoubts doubts (life disk).seen)

  -- a disk that opens to a state is whole
  abbrev pub IsOfCheck : D → List ℕ → Type 0
  IsOfCheck disk text = (text ≡ codes "whole\n") × (IsTrue modelled → (name : List ℕ) × (state : Durable) × OpensTo name state (life disk).seen)

  -- ---- over the disk of a path

  module _ {F : Type 0} (calls : FileCalls F D) where
    -- a text of the store of a path is written, and nothing else; none is where the store is not opened or memory is refused
    abbrev pub Tells : (D → List ℕ → Type 0) → List ℕ → F → Option (List ℕ) → Result (Unit {0}) Fault → F → Option (List ℕ) → Type 0
    Tells IsOf path files before (Ok done) files' now = (disk : D) × calls.opens files path (Some disk) files' × (text : List ℕ) × IsOf disk text × Appends before now text
    Tells IsOf path files before (Err fault) files' now = (OpensStore modelled life calls files path (Err fault) files' × (now ≡ before))
        ⊎ ((disk : D) × calls.opens files path (Some disk) files' × (((fault ≡ NoMemory) × (now ≡ before)) ⊎ (fault ≡ Device)))

    -- the units in doubt of the store of a path are listed
    abbrev pub Lists : List ℕ → F → Option (List ℕ) → Result (Unit {0}) Fault → F → Option (List ℕ) → Type 0
    Lists path files before outcome files' now = Tells IsOfDoubts path files before outcome files' now

    -- how much the store of a path holds is told
    abbrev pub TellsRoom : List ℕ → F → Option (List ℕ) → Result (Unit {0}) Fault → F → Option (List ℕ) → Type 0
    TellsRoom path files before outcome files' now = Tells IsOfRoom path files before outcome files' now

    -- the store of a path is told to be whole
    abbrev pub Checks : List ℕ → F → Option (List ℕ) → Result (Unit {0}) Fault → F → Option (List ℕ) → Type 0
    Checks path files before outcome files' now = Tells IsOfCheck path files before outcome files' now
