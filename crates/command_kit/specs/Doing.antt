-- What an SQL command does: it is answered at once, or asks the core, whose answer decides.
use Rattle.std.specs.Prelude.{List}
use Rattle.core_calls.specs.Call.{Call}
use Rattle.core_calls.specs.Answer.{Answer}
use Rattle.sqlam_replies.specs.Reply.{Reply}
use Rattle.command_kit.specs.Statements.{Statements}

-- the replies in their order, and what is kept then
pub record Done : Type 0 where
  pub statements : Statements
  pub replies : List Reply

abbrev pub answered : Statements → List Reply → Done
answered k replies = record { statements = k; replies = replies }

pub data Doing : Type 0 where
  finished : Done → Doing
  asking : Call → (Answer → Done) → Doing
