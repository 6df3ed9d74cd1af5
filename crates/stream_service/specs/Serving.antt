-- What serving a stream comes to: what stood in the input, what the writer held before and holds now, and how the
-- conversation stood with who is asked, before and at its end. `asks` says which call, which answer and which
-- state of who is asked belong together.
use Rattle.std.specs.Prelude.{◌≡◌, ◌⊎◌, ◌+◌, ℕ, List, [], ◌++◌, Option, Some, None, take}
use Rattle.std.specs.Io.KnownBytes.{Appends}
use Rattle.counted_streams.specs.Faults.{Counts, NoneFails, ReadingFails, WritingFails}
use Rattle.core_calls.specs.Answer.{Answer}
use Rattle.core_calls.specs.Call.{Call, lost}
use Rattle.session_commands.specs.Settings.{Settings}
use Rattle.conversation.specs.Attended.{Attended}
use Rattle.conversation.specs.Hearing.{Hears, IsShortReply}
use Rattle.stream_service.specs.declared.serving.Served.{Served}
use Rattle.stream_service.specs.declared.serving.Served.TheVariants.{Done, ReadFault, WriteFault, NoMemory}

-- A failed read is told exactly where a read has failed, or 2^63 were not enough, and a failed write exactly where a write has failed.
abbrev pub TellsFaults : Served → Counts → Counts → Type 0
TellsFaults Done old new = NoneFails old new
TellsFaults ReadFault old new = ReadingFails old new
TellsFaults WriteFault old new = WritingFails old new
TellsFaults NoMemory old new = NoneFails old new

-- the same of a piece, for which nothing is read: how many writes had failed before and behind it
abbrev pub CountsWriting : Option Served → ℕ → ℕ → Type 0
CountsWriting None old new = new ≡ old
CountsWriting (Some Done) old new = new ≡ old
CountsWriting (Some ReadFault) old new = ⊥
CountsWriting (Some WriteFault) old new = new ≡ old + 1
CountsWriting (Some NoMemory) old new = new ≡ old

module _ {A : Type 0} (asks : A → Call → Answer → A → Type 0) where
  -- whoever is asked is told that the conversation is lost, whatever is answered
  abbrev pub Loses : A → A → Type 0
  Loses asked asked' = (answer : Answer) × asks asked lost answer asked'

  -- all of the input was heard, and its answers are written
  pub record AnswersAll (settings : Settings) (before : Attended A) (input : List ℕ) (written written' : Option (List ℕ)) (last : Attended A) : Type 0 where
    pub replies : List ℕ
    pub hears : Hears asks settings before input replies last
    pub appended : Appends written written' replies

  -- all of a piece was heard, its answers are written, and the conversation hears nothing of whatever comes after it
  pub record AnswersLast (settings : Settings) (before : Attended A) (piece : List ℕ) (written written' : Option (List ℕ)) (last : Attended A) : Type 0 where
    pub replies : List ℕ
    pub hears : (more : List ℕ) → Hears asks settings before (piece ++ more) replies last
    pub appended : Appends written written' replies

  -- a prefix of the input was heard, and its answers are written
  pub record AnswersPrefix (settings : Settings) (before : Attended A) (input : List ℕ) (written written' : Option (List ℕ)) (last : Attended A) : Type 0 where
    pub front : List ℕ
    pub rest : List ℕ
    pub replies : List ℕ
    pub input_is : input ≡ front ++ rest
    pub hears : Hears asks settings before front replies last
    pub appended : Appends written written' replies

  -- the same, but perhaps for the last answer, which says that a command found no memory
  pub record AnswersButShort (settings : Settings) (before : Attended A) (input : List ℕ) (written written' : Option (List ℕ)) (last : Attended A) : Type 0 where
    pub front : List ℕ
    pub rest : List ℕ
    pub replies : List ℕ
    pub unsaid : List ℕ
    pub input_is : input ≡ front ++ rest
    pub hears : Hears asks settings before front (replies ++ unsaid) last
    pub short : (unsaid ≡ []) ⊎ IsShortReply unsaid
    pub appended : Appends written written' replies

  -- a prefix of the input was heard, and a prefix of its answers is written
  pub record BreaksOff (settings : Settings) (before : Attended A) (input : List ℕ) (written written' : Option (List ℕ)) (last : Attended A) : Type 0 where
    pub front : List ℕ
    pub rest : List ℕ
    pub replies : List ℕ
    pub count : ℕ
    pub input_is : input ≡ front ++ rest
    pub hears : Hears asks settings before front replies last
    pub appended : Appends written written' (take count replies)

  -- a piece of the input, by how the conversation goes on or ends with it
  abbrev pub AnswersPiece : Settings → Attended A → List ℕ → Option (List ℕ) → Option Served → Option (List ℕ) → Attended A → Type 0
  AnswersPiece settings before piece written None written' last = AnswersAll settings before piece written written' last
  AnswersPiece settings before piece written (Some Done) written' last = AnswersLast settings before piece written written' last
  AnswersPiece settings before piece written (Some ReadFault) written' last = ⊥
  AnswersPiece settings before piece written (Some WriteFault) written' last = BreaksOff settings before piece written written' last
  AnswersPiece settings before piece written (Some NoMemory) written' last = AnswersButShort settings before piece written written' last

  -- by how it ends, up to before the conversation is lost
  abbrev pub Converses : Settings → Attended A → List ℕ → Option (List ℕ) → Served → Option (List ℕ) → Attended A → Type 0
  Converses settings before input written Done written' last = AnswersAll settings before input written written' last
  Converses settings before input written ReadFault written' last = AnswersPrefix settings before input written written' last
  Converses settings before input written WriteFault written' last = BreaksOff settings before input written written' last
  Converses settings before input written NoMemory written' last = AnswersButShort settings before input written written' last

  -- the conversation is served, and then lost
  pub record Serves (settings : Settings) (before : Attended A) (input : List ℕ) (written : Option (List ℕ)) (result : Served) (written' : Option (List ℕ)) (asked : A) : Type 0 where
    pub last : Attended A
    pub converses : Converses settings before input written result written' last
    pub loses : Loses last.standing.asked asked
