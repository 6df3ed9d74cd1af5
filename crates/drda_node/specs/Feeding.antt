-- What feeding a conversation of a machine gives.
use Rattle.std.specs.Prelude.{◌≡◌, ℕ, List, Some, slice_get}
use Rattle.conversation.specs.Held.{Held}
use Rattle.conversation.specs.declared.fed.Fed.{Fed}
use Rattle.conversation.specs.Feeding.{Takes}
use Rattle.drda_node.specs.Asking.{asks}
use Rattle.drda_node.specs.Machine.{Conversation, Machine}
use Rattle.drda_node.specs.Hearing.{Attended, attended, attended_at}

-- the conversation at this place takes bytes of the piece; all others stay as they are
pub record Feeds (old : Machine) (place : ℕ) (piece out : List ℕ) (fed : Fed) (new : Machine) (out' : List ℕ) : Type 0 where
  pub before : Conversation
  pub after : Attended
  pub was : slice_get old.row place ≡ Some (Some before)
  pub row : new ≡ attended_at old place after
  pub takes : Takes (asks place) old.settings (attended old before) piece out fed after out'

abbrev pub shown_held : Held → Conversation
shown_held held = record { rest = held.rest; session = held.session; statements = held.statements }
