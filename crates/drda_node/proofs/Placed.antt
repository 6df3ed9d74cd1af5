-- What a conversation heard that stands at a place of a machine.
use Rattle.std.proofs.Common.{◌≡◌, ℕ, List, Some, slice_get, sym, subst}
use Rattle.conversation.specs.declared.fed.Heard.{Heard}
use Rattle.conversation.specs.declared.fed.Heard.TheVariants.{Closed, NoMemory, Open}
use Rattle.conversation.specs.Pieces as pieces
use Rattle.drda_node.specs.Asking.{asks}
use Rattle.drda_node.specs.Machine.{Conversation, IsOpen, Machine}
use Rattle.drda_node.specs.Hearing.{Attended, HearsPiece, attended, attended_at, conversation_of}
use Rattle.drda_node.proofs.Rows.{get_set}

module _ (old new : Machine) (place : ℕ) (before : Conversation) (after : Attended) (was : slice_get old.row place ≡ Some (Some before)) (row : new ≡ attended_at old place after) where
  pub hears_there : (heard : Heard) (piece out out' : List ℕ) → pieces.HearsPiece (asks place) old.settings (attended old before) piece out heard after out' → HearsPiece old place piece out heard new out'
  hears_there Open piece out out' h = record {
    replies = h.replies;
    after = after;
    hears = record { before = before; was = was; hears = h.hears; row = row };
    still_open = h.still_open;
    appended = h.appended;
  }
  hears_there Closed piece out out' h = record {
    replies = h.replies;
    after = after;
    hears = λ more. record { before = before; was = was; hears = h.hears more; row = row };
    closed = h.closed;
    appended = h.appended;
  }
  hears_there NoMemory piece out out' h = record {
    heard = h.heard;
    rest = h.rest;
    replies = h.replies;
    unsaid = h.unsaid;
    after = after;
    parts = h.parts;
    hears = record { before = before; was = was; hears = h.hears; row = row };
    short = h.short;
    appended = h.appended;
  }

  pub still_there : IsOpen new place
  still_there =
      (conversation_of after, subst (λ (m : Machine). slice_get m.row place ≡ Some (Some (conversation_of after))) (sym row) (get_set old.row place (Some before) (Some (conversation_of after)) was))
