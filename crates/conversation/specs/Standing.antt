-- How a conversation stands with who is asked.
use Rattle.command_kit.specs.declared.statements.Statements.{Statements}
use Rattle.command_kit.specs.Statements.{fresh as no_statements}
use Rattle.session_commands.specs.declared.session.Session.{Session}
use Rattle.session_commands.specs.Session.{fresh}
use Rattle.conversation.specs.Held.{Held}

-- what is remembered, what is kept for its statements, and who is asked
pub record Standing (A : Type 0) : Type 0 where
  pub session : Session
  pub statements : Statements
  pub asked : A

-- at its beginning
abbrev pub beginning : {A : Type 0} → A → Standing A
beginning asked = record { session = fresh; statements = no_statements; asked = asked }

abbrev pub standing : {A : Type 0} → Held → A → Standing A
standing held asked = record { session = held.session; statements = held.statements; asked = asked }
