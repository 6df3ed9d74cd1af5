-- Replies, each in a DSS of its own (DRDA V5 volume 3: the reply messages and reply data objects).
use Rattle.std.specs.Prelude.{ℕ, List}
use Rattle.sqlam_replies.specs.Message.{Message, message_text}

-- its DSS type (2 a reply message, 3 an object), its severity (0 where it has none), its text
pub record Reply : Type 0 where
  pub dss_type : ℕ
  pub severity : ℕ
  pub text : List ℕ

abbrev pub message : Message → Reply
message m = record { dss_type = 2; severity = m.severity; text = message_text m }

abbrev pub object : List ℕ → Reply
object text = record { dss_type = 3; severity = 0; text = text }
