-- Faults of the framing (DRDA V5 volume 3, DSS and SYNERRCD), and what is neither a command nor a fault.
use Rattle.std.specs.Prelude.{◌≡◌, ℕ, ◌+◌, ◌==◌, nat_le, List, ◌∷◌, ◌++◌, length, Option, Some, None, if◌then◌else◌}
use Rattle.dss_frames.specs.declared.turn.Turn.{Turn}
use Rattle.dss_frames.specs.declared.turn.Turn.TheVariants.{Request, Nothing}
use Rattle.dss_frames.specs.declared.fault.SyntaxCode.{SyntaxCode}
use Rattle.dss_frames.specs.declared.fault.SyntaxCode.TheVariants.{HeaderTooShort, MarkNotD0, FormatNotSupported, SameCorrelatorUnchained, WrongTurn, TooLong, ContinuationTooShort}
use Rattle.dss_frames.specs.declared.fault.FrameFault.{FrameFault}
use Rattle.drda_words.specs.Number.{word}
use Rattle.dss_frames.specs.Length.{segment_length, dss_limit}
use Rattle.dss_frames.specs.Format.{is_supported, is_paired}
use Rattle.dss_frames.specs.Dss.{Dss, AreDsss, IsOpenDss}
use Rattle.dss_frames.specs.Command.{is_due, Admits, InTurn, IsCommand}

-- the number that SYNERRCD gives a fault
abbrev pub synerrcd : SyntaxCode → ℕ
synerrcd HeaderTooShort = 0x01
synerrcd MarkNotD0 = 0x03
synerrcd FormatNotSupported = 0x04
synerrcd TooLong = 0x09
synerrcd WrongTurn = 0x13
synerrcd ContinuationTooShort = 0x16
synerrcd SameCorrelatorUnchained = 0x18

-- what is wrong with the header of a DSS that comes in this turn; the first in this order counts
abbrev pub header_fault : Turn → ℕ → ℕ → ℕ → ℕ → ℕ → Option SyntaxCode
header_fault turn high low mark format correlator =
    if nat_le 6 (segment_length high low) then (
    if mark == 0xD0 then (
    if is_supported format then (
    if is_paired format then (
    if is_due turn format correlator then None
    else Some WrongTurn)
    else Some SameCorrelatorUnchained)
    else Some FormatNotSupported)
    else Some MarkNotD0)
    else Some HeaderTooShort

-- what is wrong with the header of a continuation behind so many bytes of its DSS
abbrev pub continuation_fault : ℕ → ℕ → ℕ → Option SyntaxCode
continuation_fault declared high low =
    if nat_le (declared + segment_length high low) dss_limit then (
    if nat_le 3 (segment_length high low) then None
    else Some ContinuationTooShort)
    else Some TooLong

-- What has to come next: the header of a DSS in its turn, or the header of a continuation of this
-- DSS, of which so many bytes have come.
pub data Next : Type 0 where
  dss_in_turn : Turn → Next
  continuation_of : Dss → ℕ → Next

-- the bytes are these whole DSSs of a command, each in its turn, and what comes next
abbrev pub UpTo : List ℕ → List Dss → Next → Type 0
UpTo bytes dsss (dss_in_turn turn) = AreDsss bytes dsss × InTurn Request dsss turn
UpTo bytes dsss (continuation_of dss declared) =
    (front begun : List ℕ) × (turn : Turn)
    × (bytes ≡ front ++ begun)
    × AreDsss front dsss
    × InTurn Request dsss turn
    × Admits turn dss
    × IsOpenDss begun dss
    × (declared ≡ length begun)

-- A header has come whole and is wrong: its six bytes are there, or the two of a continuation. The
-- fault has the correlator of the DSS that it stands in.
abbrev pub IsWrong : Next → List ℕ → FrameFault → Type 0
IsWrong (dss_in_turn Nothing) bytes fault = ⊥
IsWrong (dss_in_turn turn) (high ∷ low ∷ mark ∷ format ∷ c ∷ d ∷ bytes) fault =
    (header_fault turn high low mark format (word c d) ≡ Some fault.code) × (fault.correlator ≡ word c d)
IsWrong (continuation_of dss declared) (high ∷ low ∷ bytes) fault =
    (continuation_fault declared high low ≡ Some fault.code) × (fault.correlator ≡ dss.correlator)
IsWrong next bytes fault = ⊥

-- The bytes hold no whole command: all their headers are right up to one that has come and is wrong.
-- Behind it anything may stand.
abbrev pub FaultAt : List ℕ → FrameFault → Type 0
FaultAt bytes fault =
    (front rest : List ℕ) × (dsss : List Dss) × (next : Next)
    × (bytes ≡ front ++ rest)
    × UpTo front dsss next
    × IsWrong next rest fault

-- a command stands in front
abbrev pub BeginsWith : List ℕ → List Dss → List ℕ → Type 0
BeginsWith bytes dsss rest = (front : List ℕ) × (bytes ≡ front ++ rest) × IsCommand front dsss

-- the bytes may still become a command, or a fault
pub record IsUnfinished (bytes : List ℕ) : Type 0 where
  pub no_command : (dsss : List Dss) (rest : List ℕ) → BeginsWith bytes dsss rest → ⊥
  pub no_fault : (fault : FrameFault) → FaultAt bytes fault → ⊥

-- how many bytes the header takes that comes next; none behind a whole command
abbrev pub header_size : Next → ℕ
header_size (dss_in_turn Nothing) = 0
header_size (dss_in_turn turn) = 6
header_size (continuation_of dss declared) = 2

-- the bytes end where a header can be judged, or where a command is whole
abbrev pub CanBeJudged : List ℕ → Type 0
CanBeJudged bytes =
    (front header : List ℕ) × (dsss : List Dss) × (next : Next)
    × (bytes ≡ front ++ header)
    × UpTo front dsss next
    × (length header ≡ header_size next)
