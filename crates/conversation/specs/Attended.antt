-- How a conversation stands between two pieces of bytes.
use Rattle.std.specs.Prelude.{ℕ, List}
use Rattle.conversation.specs.Held.{Held}
use Rattle.conversation.specs.Standing.{Standing, standing}

-- the bytes after the last completed command of a conversation, and how it stands with who is asked
pub record Attended (A : Type 0) : Type 0 where
  pub rest : List ℕ
  pub standing : Standing A

-- what is held of a conversation, and who is asked for it
abbrev pub attended_by : {A : Type 0} → Held → A → Attended A
attended_by held asked = record { rest = held.rest; standing = standing held asked }
