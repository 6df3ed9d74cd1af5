-- The machine that a node is: what it was started with, a row of places, each free or with one
-- conversation, how many numbers of conversations were given, and the core that all of them ask.
use Rattle.std.specs.Prelude.{◌≡◌, ℕ, ◌+◌, List, [], Option, Some, None, Bool, slice_get, slice_set, is_some, replicate}
use Rattle.std.specs.List.{list_all}
use Rattle.drda_node.specs.Asking.{AskedCore, left_by}
use Rattle.command_kit.specs.Statements.{fresh as no_statements}
use Rattle.command_kit.specs.declared.statements.Statements.{Statements}
use Rattle.session_commands.specs.declared.session.Session.{Session}
use Rattle.session_commands.specs.Settings.{Settings}
use Rattle.session_commands.specs.Session.{fresh}

-- what is left of a conversation between two events: the bytes that came after its last completed
-- command, what is remembered of it, and what is kept for its statements
pub record Conversation : Type 0 where
  pub rest : List ℕ
  pub session : Session
  pub statements : Statements

pub record Machine : Type 0 where
  pub settings : Settings
  pub row : List (Option Conversation)
  pub given : ℕ
  pub core : AskedCore

-- no conversation is open
abbrev pub at_start : Settings → AskedCore → Machine
at_start settings core = record { settings = settings; row = replicate 64 None; given = 0; core = core }

-- a conversation of which nothing has come
abbrev pub beginning : Conversation
beginning = record { rest = []; session = fresh; statements = no_statements }

-- a conversation is opened under the next number
abbrev pub opened : Machine → ℕ → Machine
opened machine place = record machine { row = slice_set machine.row place (Some beginning); given = machine.given + 1 }

-- A conversation that is lost leaves its place free, and the core ends what was its alone. A command that
-- had not come whole is not asked.
abbrev pub lost : Machine → ℕ → Machine
lost machine place = record machine { row = slice_set machine.row place None; core = left_by machine.core place }

abbrev pub IsOpen : Machine → ℕ → Type 0
IsOpen machine place = (conversation : Conversation) × (slice_get machine.row place ≡ Some (Some conversation))

-- there is no free place
abbrev pub is_full : Machine → Bool
is_full machine = list_all is_some machine.row
