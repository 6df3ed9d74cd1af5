-- What a conversation holds between two calls: what the server was started with, the bytes that came
-- after its last completed command, what is remembered, and what is kept for its statements.
use Rattle.std.specs.Prelude.{ℕ, List, []}
use Rattle.command_kit.specs.declared.statements.Statements.{Statements}
use Rattle.command_kit.specs.Statements.{fresh as no_statements}
use Rattle.session_commands.specs.declared.session.Session.{Session}
use Rattle.session_commands.specs.Session.{fresh}
use Rattle.session_commands.specs.Settings.{Settings}

pub record Held : Type 0 where
  pub settings : Settings
  pub rest : List ℕ
  pub session : Session
  pub statements : Statements

-- of which nothing has come
abbrev pub newly_held : Settings → Held
newly_held settings = record { settings = settings; rest = []; session = fresh; statements = no_statements }
