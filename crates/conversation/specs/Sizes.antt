-- The most bytes that the replies to a command take, as DSSs.
use Rattle.std.specs.Prelude.{ℕ, max}
use Rattle.drda_commands.specs.declared.table.Command.{Command}
use Rattle.drda_commands.specs.Given.{Given}
use Rattle.command_kit.specs.declared.statements.Statements.{Statements}
use Rattle.cursor_commands.specs.Sizes as cursors

-- A block of rows may be longer than anything else; the longest of the others is a list of 256 branches in doubt.
abbrev pub most_length : Command → Given → Statements → ℕ
most_length command given k = max (cursors.most_length command given k) 36902
