-- What feeding a conversation gives.
use Rattle.std.specs.Prelude.{◌≡◌, ◌⊎◌, ◌≤◌, ◌<◌, ◌-◌, ℕ, Bool, true, false, List, [], ◌++◌, length, take, if◌then◌else◌}
use Rattle.core_calls.specs.Call.{Call}
use Rattle.core_calls.specs.Answer.{Answer}
use Rattle.dss_frames.specs.Dss.{Dss}
use Rattle.dss_frames.specs.Fault.{IsUnfinished}
use Rattle.dss_frames.specs.Reading.{unfinished, ReadsAs}
use Rattle.session_commands.specs.Settings.{Settings}
use Rattle.conversation.specs.declared.front.Need.{Need}
use Rattle.conversation.specs.declared.front.Need.TheVariants.{Bytes, Local, Short as short, Closed as closed}
use Rattle.conversation.specs.Held.{Held}
use Rattle.conversation.specs.declared.fed.Fed.{Fed}
use Rattle.conversation.specs.declared.fed.FedState.{FedState}
use Rattle.conversation.specs.declared.fed.FedState.TheVariants.{Open, Closed, Short, Later}
use Rattle.conversation.specs.Attended.{Attended}
use Rattle.conversation.specs.Hearing.{Hears}

-- between two calls the rest of an open conversation holds no whole command and no fault
abbrev pub IsBetweenCommands : Held → Type 0
IsBetweenCommands held = held.session.is_closed ≡ false → IsUnfinished held.rest

-- how it stands after one step of the conversation, by whether bytes were taken or there were none
abbrev pub state_for : Need → Bool → FedState
state_for Bytes has_fed = if has_fed then Open else Later
state_for Local has_fed = if has_fed then Open else Later
state_for (short bytes) has_fed = Short bytes
state_for closed has_fed = Closed

-- the bytes of a reply that comes behind what was appended
abbrev pub bytes_behind : FedState → List ℕ
bytes_behind Open = []
bytes_behind Closed = []
bytes_behind (Short bytes) = bytes
bytes_behind Later = []

-- bytes of the piece are left, or it had none
abbrev pub IsLeft : ℕ → List ℕ → Type 0
IsLeft taken piece = (taken < length piece) ⊎ (piece ≡ [])

module _ {A : Type 0} where
  -- what a state says of the conversation, and of how many bytes were taken
  abbrev pub LeftAs : FedState → ℕ → Attended A → Type 0
  LeftAs Open taken after = after.standing.session.is_closed ≡ false
  LeftAs Closed taken after = after.standing.session.is_closed ≡ true
  LeftAs (Short bytes) taken after = (0 < taken) × (after.standing.session.is_closed ≡ false)
  LeftAs Later taken after = after.standing.session.is_closed ≡ false

  -- The last byte that was taken is the last one of a faulty header: without it there is no fault, but
  -- commands and what may still become one.
  pub record EndsAtFault (before : Attended A) (piece : List ℕ) (taken : ℕ) : Type 0 where
    pub some : 0 < taken
    pub commands : List (List Dss)
    pub rest : List ℕ
    pub one_less : ReadsAs (before.rest ++ take (taken - 1) piece) commands (unfinished rest)

  -- the last byte that was taken is the last one of a command
  pub record EndsWithCommand (before : Attended A) (piece : List ℕ) (taken : ℕ) : Type 0 where
    pub some : 0 < taken
    pub commands : List (List Dss)
    pub whole : ReadsAs (before.rest ++ take taken piece) commands (unfinished [])

-- `asks` says which call, which answer and which state of who is asked belong together
module _ {A : Type 0} (asks : A → Call → Answer → A → Type 0) where
  -- bytes were heard, and the replies appended, but for what comes behind them
  pub record Told (settings : Settings) (before : Attended A) (bytes out behind : List ℕ) (after : Attended A) (out' : List ℕ) : Type 0 where
    pub replies : List ℕ
    pub appended : out' ≡ out ++ replies
    pub hears : Hears asks settings before bytes (replies ++ behind) after

  -- The conversation heard the bytes of the piece that were taken, and its replies were appended. All of
  -- the piece is taken where the conversation stays open, and nothing where it was closed before.
  pub record Takes (settings : Settings) (before : Attended A) (piece out : List ℕ) (fed : Fed) (after : Attended A) (out' : List ℕ) : Type 0 where
    pub within : fed.taken ≤ length piece
    pub told : Told settings before (take fed.taken piece) out (bytes_behind fed.state) after out'
    pub state : LeftAs fed.state fed.taken after
    pub all : fed.state ≡ Open → fed.taken ≡ length piece
    pub later : fed.state ≡ Later → IsLeft fed.taken piece
    pub closed : fed.state ≡ Closed → before.standing.session.is_closed ≡ false → EndsAtFault before piece fed.taken ⊎ EndsWithCommand before piece fed.taken
    pub none : before.standing.session.is_closed ≡ true → fed.taken ≡ 0
