-- What a conversation answers to bytes, and what it makes of who is asked. `asks` says which call, which answer and
-- which state of who is asked belong together.
use Rattle.std.specs.Prelude.{◌≡◌, ◌⊎◌, ℕ, true, false, List, [], ◌++◌, length}
use Rattle.core_calls.specs.Call.{Call}
use Rattle.core_calls.specs.Answer.{Answer}
use Rattle.session_commands.specs.Settings.{Settings}
use Rattle.conversation.specs.Steps.{Converses}
use Rattle.conversation.specs.Attended.{Attended}

-- a closed conversation hears nothing any more
pub record HearsNothing {A : Type 0} (before : Attended A) (replies : List ℕ) (after : Attended A) : Type 0 where
  pub closed : before.standing.session.is_closed ≡ true
  pub silent : replies ≡ []
  pub same : after ≡ before

module _ {A : Type 0} (asks : A → Call → Answer → A → Type 0) where
  -- An open conversation does each command that is whole with these bytes, in order, and keeps the rest. A
  -- fault of the framing is answered and closes it, and so does a command that is answered by AGNPRMRM.
  pub record Listens (settings : Settings) (before : Attended A) (bytes replies : List ℕ) (after : Attended A) : Type 0 where
    pub still_open : before.standing.session.is_closed ≡ false
    pub converses : Converses asks settings before.standing (before.rest ++ bytes) replies after.rest after.standing

  -- To these bytes it answers these replies.
  abbrev pub Hears : Settings → Attended A → List ℕ → List ℕ → Attended A → Type 0
  Hears settings before bytes replies after = Listens settings before bytes replies after ⊎ HearsNothing before replies after

-- the bytes of the reply that says that a command found no memory
abbrev pub IsShortReply : List ℕ → Type 0
IsShortReply bytes = length bytes ≡ 16
