-- A conversation over a stream, at a desk.
use Rattle.std.specs.Prelude.{◌≡◌, ◌⊎◌, List, ℕ, Option}
use Rattle.core_calls.specs.Call.{Call}
use Rattle.core_calls.specs.Answer.{Answer}
use Rattle.session_commands.specs.Settings.{Settings}
use Rattle.conversation.specs.Held.{newly_held}
use Rattle.conversation.specs.Attended.{attended_by}
use Rattle.stream_service.specs.Serving.{Loses, Serves}
use Rattle.stream_service.specs.declared.serving.Served.{Served}
use Rattle.stream_service.specs.declared.serving.Served.TheVariants.{NoMemory}

module _ {A : Type 0} (asks : A → Call → Answer → A → Type 0) where
  -- there was no memory for the conversation: nothing was heard, asked or written
  pub record HeardNothing (old : A) (before : Option (List ℕ)) (result : Served) (now : Option (List ℕ)) (new : A) : Type 0 where
    pub no_memory : result ≡ NoMemory
    pub unwritten : now ≡ before
    pub unasked : new ≡ old

  -- a conversation of which nothing had come was served, and lost; or nothing was heard
  abbrev pub IsServed : Settings → A → List ℕ → Option (List ℕ) → Served → Option (List ℕ) → A → Type 0
  IsServed settings old input before result now new = HeardNothing old before result now new ⊎ Serves asks settings (attended_by (newly_held settings) old) input before result now new

  -- whatever is read, the loss is asked last; or nothing was asked, for want of memory
  abbrev pub IsLost : A → Served → A → Type 0
  IsLost old result new = ((result ≡ NoMemory) × (new ≡ old)) ⊎ ((before : A) × Loses asks before new)
