-- What `Segments::next` hands out, and what the reader is when the borrow ends.
use Rattle.std.specs.Prelude.{◌≡◌, ◌⊎◌, ◌≤◌, ◌<◌, ℕ, Bool, true, false, List, [], ◌++◌, length, take, Option, Some, None, Result, Ok, Err}
use Rattle.std.specs.Borrow.{MutBor, Fml}
use Rattle.std.specs.Io.BufRead.{Rests}
use Rattle.dss_frames.specs.contracts.segments.Segments.{the_row}
use Rattle.dss_frames.specs.declared.fault.FrameFault.{FrameFault}
use Rattle.dss_frames.specs.declared.group.Group.{Group}
use Rattle.dss_frames.specs.Dss.{Dss}
use Rattle.dss_frames.specs.Fault.{FaultAt, BeginsWith, IsUnfinished, CanBeJudged}
use Rattle.dss_frames.specs.Group.{command_of}
use Rattle.dss_frames.specs.Held.{Held}

-- when the borrow is over, what was lent satisfies P
abbrev pub EndsAs : MutBor Held → (Held → Type 0) → Fml
EndsAs lender P = Rests the_row lender P

-- the command in front is taken
pub record TakesCommand (old : Held) (command : List Dss) (new : Held) : Type 0 where
  pub taken : BeginsWith old.rest command new.rest
  pub last : new.last ≡ command
  pub no_fault : new.at_fault ≡ false

-- more bytes have to come
pub record WaitsFor (old new : Held) : Type 0 where
  pub unfinished : IsUnfinished old.rest
  pub rest : new.rest ≡ old.rest
  pub last : new.last ≡ old.last
  pub no_fault : new.at_fault ≡ false

-- the first fault stands here
pub record FailsAt (old : Held) (fault : FrameFault) (new : Held) : Type 0 where
  pub found : FaultAt old.rest fault
  pub rest : new.rest ≡ old.rest
  pub last : new.last ≡ old.last
  pub at_fault : new.at_fault ≡ true

abbrev pub Takes : Held → Result (Option Group) FrameFault → Held → Type 0
Takes old (Ok (Some group)) new = TakesCommand old (command_of group) new
Takes old (Ok None) new = WaitsFor old new
Takes old (Err fault) new = FailsAt old fault new

-- the step behind `Takes`, before anything is lent
abbrev pub TakesFront : Held → Result Bool FrameFault → Held → Type 0
TakesFront old (Ok true) new = TakesCommand old new.last new
TakesFront old (Ok false) new = WaitsFor old new
TakesFront old (Err fault) new = FailsAt old fault new

-- Unfinished bytes stay so with less than so many bytes more, and with exactly so many the next header
-- can be judged, or the command is whole.
pub record IsWanted (bytes : List ℕ) (wanted : ℕ) : Type 0 where
  pub less : (more : List ℕ) → length more < wanted → IsUnfinished (bytes ++ more)
  pub just : (more : List ℕ) → length more ≡ wanted → CanBeJudged (bytes ++ more)

-- Behind unfinished bytes, no more of a piece than the first command or fault takes: with fewer of its bytes there is
-- neither, and a command that is there with no more of them takes all of them.
pub record KeepsToFirst (bytes piece : List ℕ) (count : ℕ) : Type 0 where
  pub less : (fewer : ℕ) → fewer < count → IsUnfinished (bytes ++ take fewer piece)
  pub alone : (many : ℕ) (command : List Dss) (rest : List ℕ) → many ≤ count → BeginsWith (bytes ++ take many piece) command rest → rest ≡ []

-- and not less than can be judged, unless it is all of the piece
abbrev pub GoesFar : List ℕ → List ℕ → ℕ → Type 0
GoesFar bytes piece count = (count ≡ length piece) ⊎ CanBeJudged (bytes ++ take count piece)
