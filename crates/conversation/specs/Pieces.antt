-- A piece of bytes that a conversation was given, by how hearing it ends. `asks` says which call, which answer and
-- which state of who is asked belong together.
use Rattle.std.specs.Prelude.{◌≡◌, ◌⊎◌, ℕ, true, false, List, [], ◌++◌}
use Rattle.core_calls.specs.Call.{Call}
use Rattle.core_calls.specs.Answer.{Answer}
use Rattle.session_commands.specs.Settings.{Settings}
use Rattle.conversation.specs.declared.fed.Heard.{Heard}
use Rattle.conversation.specs.declared.fed.Heard.TheVariants.{Open, Closed, NoMemory}
use Rattle.conversation.specs.Attended.{Attended}
use Rattle.conversation.specs.Hearing.{Hears, IsShortReply}

module _ {A : Type 0} (asks : A → Call → Answer → A → Type 0) where
  -- all of it, whose replies were appended, and the conversation is open
  pub record HearsAll (settings : Settings) (before : Attended A) (piece out : List ℕ) (after : Attended A) (out' : List ℕ) : Type 0 where
    pub replies : List ℕ
    pub hears : Hears asks settings before piece replies after
    pub still_open : after.standing.session.is_closed ≡ false
    pub appended : out' ≡ out ++ replies

  -- the same, and the conversation is closed, so that it hears nothing of whatever comes after the piece
  pub record HearsLast (settings : Settings) (before : Attended A) (piece out : List ℕ) (after : Attended A) (out' : List ℕ) : Type 0 where
    pub replies : List ℕ
    pub hears : (more : List ℕ) → Hears asks settings before (piece ++ more) replies after
    pub closed : after.standing.session.is_closed ≡ true
    pub appended : out' ≡ out ++ replies

  -- a prefix of it, whose replies were appended, but perhaps not the last, which says that a command found no memory
  pub record HearsPart (settings : Settings) (before : Attended A) (piece out : List ℕ) (after : Attended A) (out' : List ℕ) : Type 0 where
    pub heard : List ℕ
    pub rest : List ℕ
    pub replies : List ℕ
    pub unsaid : List ℕ
    pub parts : piece ≡ heard ++ rest
    pub hears : Hears asks settings before heard (replies ++ unsaid) after
    pub short : (unsaid ≡ []) ⊎ IsShortReply unsaid
    pub appended : out' ≡ out ++ replies

  -- what stood in `out` before and stands there now, and the conversation before and now, by how hearing it ends
  abbrev pub HearsPiece : Settings → Attended A → List ℕ → List ℕ → Heard → Attended A → List ℕ → Type 0
  HearsPiece settings before piece out Open after out' = HearsAll settings before piece out after out'
  HearsPiece settings before piece out Closed after out' = HearsLast settings before piece out after out'
  HearsPiece settings before piece out NoMemory after out' = HearsPart settings before piece out after out'
