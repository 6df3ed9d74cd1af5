-- A run as a chain of stations, one behind each event: so what was answered by an event is on the disk at each later moment.
use Rattle.std.specs.Prelude.{◌≡◌, ◌⊎◌, ℕ, Bool, List, [], ◌∷◌, ◌++◌, Option}
use Rattle.std.specs.List.{All, flat_map}
use Rattle.std.specs.Io.KnownBytes.{Appends}
use Rattle.drda_disk.specs.Disk.{Life}
use Rattle.recovery.specs.Journaled.{OnDisk, shown_on}
use Rattle.durable_core.specs.Checkpointing.{Checkpoints}
use Rattle.durable_core.specs.declared.checkpointing.Checkpointed.{Checkpointed}
use Rattle.drda_node.specs.Asking.{IsJournaled, asked_after}
use Rattle.drda_node.specs.Machine.{Machine}
use Rattle.drda_node.specs.Records.{Event, IsAllowed, checkpoints, event_text, loses, opens, record_text, sends}
use Rattle.drda_node.specs.Happening.{Happens, code_of}

-- where a run stands between two events: the machine, its core over the disk, what was written so far, and the answers that
-- are to be written next
pub record Station (D : Type 0) : Type 0 where
  pub machine : Machine
  pub core : OnDisk D
  pub sent : List ℕ
  pub gathered : List ℕ

-- before the first event
abbrev pub first_station : {D : Type 0} → Machine → OnDisk D → Station D
first_station machine core = record { machine = machine; core = core; sent = []; gathered = [] }

-- the answer is gathered behind the others, or all of them are written
abbrev pub SendsOn : {D : Type 0} → Station D → List ℕ → Station D → Type 0
SendsOn a answer b =
    ((b.sent ≡ a.sent) × (b.gathered ≡ a.gathered ++ answer))
    ⊎ ((b.sent ≡ a.sent ++ (a.gathered ++ answer)) × (b.gathered ≡ []))

module _ {D : Type 0} (modelled : Bool) (life : D → Life) where
  -- A checkpoint is answered by what became of it on the disk: it was written, where it fits into a half, and its room is what it leaves
  -- there; or there is no room, exactly where it does not fit; or memory was refused, or the device failed.
  abbrev pub TellsCheckpoint : OnDisk D → Event → List ℕ → OnDisk D → Type 0
  TellsCheckpoint old (opens number) answer new = Unit {0}
  TellsCheckpoint old (sends number bytes) answer new = Unit {0}
  TellsCheckpoint old (loses number) answer new = Unit {0}
  TellsCheckpoint old (checkpoints number) answer new =
      (told : Checkpointed) × (answer ≡ record_text 4 number (code_of told ∷ [])) × Checkpoints modelled told (shown_on life old) (shown_on life new)

  -- One event further on: it is answered, what it left on the disk is journaled, and only then its answer is written.
  pub record GoesTo (a : Station D) (event : Event) (b : Station D) : Type 0 where
    pub answer : List ℕ
    pub happens : Happens a.machine event answer b.machine
    pub over : b.machine.core ≡ asked_after modelled b.machine.core.calls b.core
    pub checkpoint : TellsCheckpoint a.core event answer b.core
    pub journaled : IsJournaled modelled life a.core b.core
    pub sends : SendsOn a answer b

  abbrev pub Stations : Station D → List Event → Station D → Type 0
  Stations a [] b = b ≡ a
  Stations a (event ∷ events) b = (next : Station D) × GoesTo a event next × Stations next events b

  -- nothing more was done, or what was is journaled
  abbrev pub StaysOrGoesOn : OnDisk D → OnDisk D → Type 0
  StaysOrGoesOn old new = (new ≡ old) ⊎ IsJournaled modelled life old new

  -- The events of the input are answered, station by station, up to a rest. Then the run ends, or breaks off within one event
  -- more; and what it wrote in all begins with what was written at the last station.
  pub record RunsAlong (first : Station D) (input : List ℕ) (before now : Option (List ℕ)) (last : OnDisk D) : Type 0 where
    pub events : List Event
    pub rest : List ℕ
    pub allowed : All IsAllowed events
    pub input_is : input ≡ flat_map event_text events ++ rest
    pub at : Station D
    pub stations : Stations first events at
    pub behind : StaysOrGoesOn at.core last
    pub more : List ℕ
    pub written : Appends before now (at.sent ++ more)

  -- what stood on the disk behind these events is there at each moment from then on, to the end of the run
  pub record StoodBehind (first : Station D) (events more : List Event) (at : Station D) (last : OnDisk D) : Type 0 where
    pub mid : Station D
    pub reached : Stations first events mid
    pub goes_on : Stations mid more at
    pub stays : StaysOrGoesOn mid.core last

  abbrev pub AnswersStay : Type 0
  AnswersStay =
      (first at : Station D) (events more : List Event) (last : OnDisk D)
      → Stations first (events ++ more) at → StaysOrGoesOn at.core last → StoodBehind first events more at last
