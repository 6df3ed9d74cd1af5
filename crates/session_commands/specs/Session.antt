-- What is remembered of a conversation at its beginning.
use Rattle.std.specs.Prelude.{false}
use Rattle.drda_commands.specs.declared.stage.Stage.TheVariants.{Fresh}
use Rattle.session_commands.specs.declared.session.Session.{Session}
use Rattle.session_commands.specs.Levels.{nothing_agreed}

abbrev pub fresh : Session
fresh = record { stage = Fresh; agreed = nothing_agreed; is_broken = false; is_closed = false }
