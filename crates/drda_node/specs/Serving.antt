-- What `run` writes for what it reads.
use Rattle.std.specs.Prelude.{◌≡◌, ◌⊎◌, ◌+◌, ℕ, true, List, [], ◌++◌, Option, take}
use Rattle.std.specs.List.{All, flat_map}
use Rattle.std.specs.Io.KnownBytes.{Appends}
use Rattle.counted_streams.specs.Faults.{Counts, NoneFails, ReadingFails}
use Rattle.drda_node.specs.declared.serving.RunEnd.{RunEnd}
use Rattle.drda_node.specs.declared.serving.RunEnd.TheVariants.{Ended, BadEvent, ReadFault, WriteFault, NoMemory}
use Rattle.drda_node.specs.Machine.{Machine}
use Rattle.drda_node.specs.Records.{Event, event_text, IsAllowed, IsBad}
use Rattle.drda_node.specs.Happening.{BreaksOff, HappenAll}
use Rattle.unit_journal.specs.Record.{Entry}

-- Some events stand in front of the input, and a rest behind them; from the first machine they make the
-- last one, and these are the records that answer them.
pub record Answered (first : Machine) (input written rest : List ℕ) (last : Machine) : Type 0 where
  pub events : List Event
  pub allowed : All IsAllowed events
  pub input_is : input ≡ flat_map event_text events ++ rest
  pub happened : HappenAll first events written last

-- The answers were written behind what the writer held.
pub record Serves (first : Machine) (input : List ℕ) (before : Option (List ℕ)) (rest : List ℕ) (now : Option (List ℕ)) (last : Machine) : Type 0 where
  pub written : List ℕ
  pub answered : Answered first input written rest last
  pub appended : Appends before now written

-- what was made before was made, what it was started with is the same, and a core that has failed stays so
pub record GoesOn (old new : Machine) : Type 0 where
  pub settings : new.settings ≡ old.settings
  pub more : List (List Entry)
  pub done : new.core.made.done ≡ old.core.made.done ++ more
  pub failed : old.core.has_failed ≡ true → new.core.has_failed ≡ true

-- where memory is refused, an event may have begun that is not answered
pub record Leaves (answered : Machine) (rest : List ℕ) (last : Machine) : Type 0 where
  pub goes_on : GoesOn answered last
  pub begun : (last ≡ answered) ⊎ ((event : Event) × (behind : List ℕ) × IsAllowed event × (rest ≡ event_text event ++ behind) × BreaksOff answered event last)

-- What stood in the input, what the writer held before and now, and the machine before and now, by how
-- a run ends.
abbrev pub Runs : Machine → List ℕ → Option (List ℕ) → RunEnd → Option (List ℕ) → Machine → Type 0
-- all of the input was events, and all of them are answered
Runs first input before Ended now last = Serves first input before [] now last
-- after the events that are answered comes what begins with no event's record
Runs first input before BadEvent now last = (rest : List ℕ) × IsBad rest × Serves first input before rest now last
-- some events at the beginning of the input are answered
Runs first input before ReadFault now last = (rest : List ℕ) × Serves first input before rest now last
-- the same, and one more may have begun
Runs first input before NoMemory now last = (rest : List ℕ) × (answered : Machine) × Serves first input before rest now answered × Leaves answered rest last
-- of such answers a prefix was written
Runs first input before WriteFault now last =
    (written rest : List ℕ) × (count : ℕ) × (answered : Machine) × Answered first input written rest answered × Appends before now (take count written) × Leaves answered rest last

-- one write has failed, and nothing else but perhaps the read in front of it
pub record WritingFailsLast (old new : Counts) : Type 0 where
  pub reading : (new.read_faults ≡ old.read_faults) ⊎ (new.read_faults ≡ old.read_faults + 1)
  pub writing : new.write_faults ≡ old.write_faults + 1

-- What had failed of both streams before and behind a run: a failed read is told only where a read has failed, or 2^63 were not enough,
-- and a failed write exactly where a write has failed.
abbrev pub TellsFaults : RunEnd → Counts → Counts → Type 0
TellsFaults Ended old new = NoneFails old new
TellsFaults BadEvent old new = NoneFails old new
TellsFaults ReadFault old new = ReadingFails old new
TellsFaults NoMemory old new = NoneFails old new
TellsFaults WriteFault old new = WritingFailsLast old new
