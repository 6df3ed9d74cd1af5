-- What a conversation answers to bytes, and what it makes of the core that it asks.
use Rattle.std.specs.Prelude.{◌≡◌, ◌⊎◌, ℕ, true, false, List, [], ◌++◌, Some, slice_get, slice_set}
use Rattle.session_commands.specs.Settings.{Settings}
use Rattle.conversation.specs.declared.fed.Heard.{Heard}
use Rattle.conversation.specs.declared.fed.Heard.TheVariants.{Open, Closed, NoMemory}
use Rattle.conversation.specs.Attended as standing
use Rattle.conversation.specs.Hearing as hearing
pub use Rattle.conversation.specs.Hearing.{IsShortReply}
use Rattle.drda_node.specs.Asking.{AskedCore, asks}
use Rattle.drda_node.specs.Machine.{Conversation, Machine}

-- how a conversation stands with the core
abbrev pub Attended : Type 0
Attended = standing.Attended AskedCore

abbrev pub attended : Machine → Conversation → Attended
attended machine conversation = record {
  rest = conversation.rest;
  standing = record { session = conversation.session; statements = conversation.statements; asked = machine.core };
}

abbrev pub conversation_of : Attended → Conversation
conversation_of a = record { rest = a.rest; session = a.standing.session; statements = a.standing.statements }

-- the conversation stands at the place then, with the core as it leaves it; all other conversations stay
abbrev pub attended_at : Machine → ℕ → Attended → Machine
attended_at machine place after = record machine { row = slice_set machine.row place (Some (conversation_of after)); core = after.standing.asked }

-- To these bytes it answers these replies, and asks the core by its place.
abbrev pub Hears : Settings → ℕ → Attended → List ℕ → List ℕ → Attended → Type 0
Hears settings place before bytes replies after = hearing.Hears (asks place) settings before bytes replies after

-- the conversation at this place hears these bytes, and all others stay as they are
pub record HearsAt (old : Machine) (place : ℕ) (bytes replies : List ℕ) (after : Attended) (new : Machine) : Type 0 where
  pub before : Conversation
  pub was : slice_get old.row place ≡ Some (Some before)
  pub hears : Hears old.settings place (attended old before) bytes replies after
  pub row : new ≡ attended_at old place after

-- ---- a piece of bytes, by how hearing it ends

-- all of it, whose replies were appended, and the conversation is open
pub record HearsAll (old : Machine) (place : ℕ) (piece out : List ℕ) (new : Machine) (out' : List ℕ) : Type 0 where
  pub replies : List ℕ
  pub after : Attended
  pub hears : HearsAt old place piece replies after new
  pub still_open : after.standing.session.is_closed ≡ false
  pub appended : out' ≡ out ++ replies

-- the same, and the conversation is closed, so that it hears nothing of whatever comes after the piece
pub record HearsLast (old : Machine) (place : ℕ) (piece out : List ℕ) (new : Machine) (out' : List ℕ) : Type 0 where
  pub replies : List ℕ
  pub after : Attended
  pub hears : (more : List ℕ) → HearsAt old place (piece ++ more) replies after new
  pub closed : after.standing.session.is_closed ≡ true
  pub appended : out' ≡ out ++ replies

-- a prefix of it, whose replies were appended, but perhaps not the last, which says that a command found no memory
pub record HearsPart (old : Machine) (place : ℕ) (piece out : List ℕ) (new : Machine) (out' : List ℕ) : Type 0 where
  pub heard : List ℕ
  pub rest : List ℕ
  pub replies : List ℕ
  pub unsaid : List ℕ
  pub after : Attended
  pub parts : piece ≡ heard ++ rest
  pub hears : HearsAt old place heard (replies ++ unsaid) after new
  pub short : (unsaid ≡ []) ⊎ IsShortReply unsaid
  pub appended : out' ≡ out ++ replies

abbrev pub HearsPiece : Machine → ℕ → List ℕ → List ℕ → Heard → Machine → List ℕ → Type 0
HearsPiece old place piece out Open new out' = HearsAll old place piece out new out'
HearsPiece old place piece out Closed new out' = HearsLast old place piece out new out'
HearsPiece old place piece out NoMemory new out' = HearsPart old place piece out new out'
