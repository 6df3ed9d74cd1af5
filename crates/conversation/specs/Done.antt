-- What becomes of a command. `asks` says which call, which answer and which state of who is asked belong
-- together.
use Rattle.std.specs.Prelude.{◌≡◌, ◌⊎◌, ℕ, Bool, true, false, List, [], ◌∷◌, ◌++◌}
use Rattle.dss_frames.specs.Dss.{Dss}
use Rattle.core_calls.specs.Call.{Call}
use Rattle.core_calls.specs.Answer.{Answer}
use Rattle.command_kit.specs.Done.{WasDone}
use Rattle.sqlam_replies.specs.Reply.{Reply}
use Rattle.conversation.specs.declared.chain.Link.{Link}
use Rattle.conversation.specs.Exchange.{Plan, excused, goes_on, link_of, passed_over, plan_for, sent}
use Rattle.session_commands.specs.Settings.{Settings}
use Rattle.conversation.specs.Standing.{Standing}

-- it belongs to a broken chain: nothing is done, asked or sent
pub record IsPassedOver {A : Type 0} (chained : Bool) (s : Standing A) (bytes : List ℕ) (s' : Standing A) : Type 0 where
  pub broken : s.session.is_broken ≡ true
  pub silent : bytes ≡ []
  pub same : s' ≡ record s { session = passed_over s.session chained }

-- it found no memory: nothing is done or asked
pub record IsExcused {A : Type 0} (s : Standing A) (command : List Dss) (bytes : List ℕ) (s' : Standing A) : Type 0 where
  pub not_broken : s.session.is_broken ≡ false
  pub same : s' ≡ record s { session = (excused s.session command).session }
  pub reply : bytes ≡ (excused s.session command).bytes

module _ {A : Type 0} (asks : A → Call → Answer → A → Type 0) where
  -- its plan is followed, and its replies are sent
  pub record IsFollowed (plan : Plan) (link : Link) (s : Standing A) (bytes : List ℕ) (s' : Standing A) : Type 0 where
    pub replies : List Reply
    pub done : WasDone asks plan.doing s.asked s'.asked s'.statements [] replies
    pub session : s'.session ≡ (sent link plan.session replies).session
    pub bytes_are : bytes ≡ (sent link plan.session replies).bytes

  pub record IsDone (settings : Settings) (s : Standing A) (request : Dss) (objects : List Dss) (bytes : List ℕ) (s' : Standing A) : Type 0 where
    pub not_broken : s.session.is_broken ≡ false
    pub followed : IsFollowed (plan_for settings s.session s.statements request objects) (link_of request objects) s bytes s'

  -- where there is memory
  abbrev pub Exchanges : Settings → Standing A → List Dss → List ℕ → Standing A → Type 0
  Exchanges settings s [] bytes s' = (bytes ≡ []) × (s' ≡ s)
  Exchanges settings s (request ∷ objects) bytes s' = IsPassedOver (goes_on (request ∷ objects)) s bytes s' ⊎ IsDone settings s request objects bytes s'

  -- What a command of an open conversation is answered, and how the conversation stands then: its answer, or
  -- want of memory in its place, but not in a broken chain.
  pub record Does (settings : Settings) (s : Standing A) (command : List Dss) (bytes : List ℕ) (s' : Standing A) : Type 0 where
    pub still_open : s.session.is_closed ≡ false
    pub does : Exchanges settings s command bytes s' ⊎ IsExcused s command bytes s'

  -- commands in order, and their replies one after the other; behind one that closes the conversation there is none
  abbrev pub DoesAll : Settings → Standing A → List (List Dss) → List ℕ → Standing A → Type 0
  DoesAll settings s [] bytes last = (bytes ≡ []) × (last ≡ s)
  DoesAll settings s (command ∷ commands) bytes last =
      (first others : List ℕ) × (then : Standing A) × Does settings s command first then × (bytes ≡ first ++ others) × DoesAll settings then commands others last
