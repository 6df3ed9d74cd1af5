-- Room for the replies to a command, made before the core is asked.
use Rattle.std.specs.Prelude.{ℕ, ◌≤◌, ◌+◌, max}
use Rattle.command_kit.specs.Replies.{Replies}

-- for so many replies, and for so many bytes of their texts
pub record HasRoom (count bytes : ℕ) (replies : Replies) : Type 0 where
  pub text_fits : bytes ≤ replies.text_room
  pub count_fits : count ≤ replies.count_room

-- the most bytes of a reply message and an SQLCARD, of a block of this size with both behind it, and of a reply message
-- and the description of rows in front of them
abbrev pub ending_text : ℕ
ending_text = 2395 + 65

abbrev pub block_text : ℕ → ℕ
block_text size = (max size 128194 + 12) + ending_text

abbrev pub opening_text : ℕ → ℕ
opening_text size = 2395 + 222 + block_text size
