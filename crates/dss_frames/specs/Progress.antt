-- How far a reader has come in the bytes that it holds.
use Rattle.std.specs.Prelude.{◌≡◌, ℕ, ◌+◌, ◌≤◌, ◌<◌, Bool, List, ◌++◌, length, take, drop, Result, Ok, Err, IsTrue}
use Rattle.dss_frames.specs.declared.progress.Expected.{Expected}
use Rattle.dss_frames.specs.declared.progress.Expected.TheVariants.{Header, Continuation}
use Rattle.dss_frames.specs.declared.progress.Progress.{Progress}
use Rattle.dss_frames.specs.declared.progress.Found.{Found}
use Rattle.dss_frames.specs.declared.progress.Found.TheVariants as found
use Rattle.dss_frames.specs.declared.turn.Turn.TheVariants.{Nothing}
use Rattle.dss_frames.specs.declared.fault.FrameFault.{FrameFault}
use Rattle.dss_frames.specs.Dss.{Dss}
use Rattle.dss_frames.specs.Command.{IsCommand}
use Rattle.dss_frames.specs.Fault.{Next, dss_in_turn, continuation_of, UpTo, FaultAt, IsUnfinished}
use Rattle.dss_frames.specs.Judging.{IsWithinLimit}

-- what the reader keeps of what comes next
abbrev pub IsExpected : Next → Expected → Type 0
IsExpected (dss_in_turn turn) (Header expected) = turn ≡ expected
IsExpected (continuation_of dss declared) (Continuation format correlator so_far) =
    (dss.format ≡ format) × (dss.correlator ≡ correlator) × (declared ≡ so_far)
IsExpected next expected = ⊥

abbrev pub Reaches : List ℕ → Expected → Type 0
Reaches bytes expected = (dsss : List Dss) × (next : Next) × UpTo bytes dsss next × IsExpected next expected

-- The next header stands at this place, or will once the bytes before it have come; all headers
-- before it are right.
pub record IsAt (bytes : List ℕ) (place : Progress) : Type 0 where
  pub early : (more : List ℕ) → length (bytes ++ more) < place.at → IsUnfinished (bytes ++ more)
  pub there : (more : List ℕ) → place.at ≤ length (bytes ++ more) → Reaches (take place.at (bytes ++ more)) place.expected
  pub near : place.at ≤ length bytes + 32767
  pub within : IsWithinLimit place.expected

-- what is known of the bytes where a fault was found
abbrev pub IsKnownFault : Bool → List ℕ → Type 0
IsKnownFault at_fault bytes = IsTrue at_fault → (fault : FrameFault) × FaultAt bytes fault

-- what a reader keeps is of one piece: where the command lies that was lent last, where the bytes
-- begin that follow it, the place of the next header, and whether a fault was found
pub record IsConsistent (items : List ℕ) (lent lent_size start : ℕ) (place : Progress) (at_fault : Bool) : Type 0 where
  pub lent_before : lent + lent_size ≤ start
  pub start_within : start ≤ length items
  pub stands : IsAt (drop start items) place
  pub known_fault : IsKnownFault at_fault (drop start items)

-- the first bytes, so many of them, are a command
abbrev pub HasCommand : List ℕ → ℕ → Type 0
HasCommand bytes size = (size ≤ length bytes) × ((dsss : List Dss) × IsCommand (take size bytes) dsss)

-- the bytes of the header that comes next
abbrev pub header_length : Expected → ℕ
header_length (Header Nothing) = 0
header_length (Header turn) = 6
header_length (Continuation format correlator declared) = 2

-- what is found is so
abbrev pub Finds : List ℕ → Result Found FrameFault → Type 0
Finds bytes (Ok (found.Command size)) = HasCommand bytes size
Finds bytes (Ok (found.Nothing place)) = IsUnfinished bytes × IsAt bytes place × (length bytes < place.at + header_length place.expected)
Finds bytes (Err fault) = FaultAt bytes fault

abbrev pub found_when : Expected → Progress → Found
found_when (Header Nothing) place = found.Command place.at
found_when expected place = found.Nothing place

-- what is found where no header has come at a place
abbrev pub found_at : Progress → Found
found_at place = found_when place.expected place
