-- The most bytes that the replies to a command on a cursor take, as DSSs (DRDA V5 volume 3, "Data Stream Structures",
-- QRYBLKSZ).
use Rattle.std.specs.Prelude.{ℕ, ◌+◌, max, Option, None, Some, unwrap_or}
use Rattle.dss_frames.specs.Writing.{written_length}
use Rattle.drda_commands.specs.declared.table.Command.{Command}
use Rattle.drda_commands.specs.declared.table.Command.TheVariants.{Clsqry, Cntqry, Opnqry}
use Rattle.drda_commands.specs.Given.{Given}
use Rattle.drda_commands.specs.Values.{block_size_in, query_instance_in}
use Rattle.sections.specs.Cursors.{meant_cursor}
use Rattle.sections.specs.Kept.{Cursor}
use Rattle.command_kit.specs.declared.statements.Statements.{Statements}
use Rattle.cursor_commands.specs.Commands.{name_in}

-- a reply message, and an SQLCARD
abbrev pub message_length : ℕ
message_length = written_length 2395

abbrev pub ending_length : ℕ
ending_length = message_length + written_length 65

-- QRYDTA with a block of this size, or with one row, and the end of the query
abbrev pub block_length : ℕ → ℕ
block_length size = written_length (max size 128194 + 12) + ending_length

-- OPNQRYRM and QRYDSC come before the first block
abbrev pub opening_length : ℕ → ℕ
opening_length size = message_length + written_length 222 + block_length size

-- the size of a cursor's next block, where there is one
abbrev pub next_size : Option ℕ → Option Cursor → ℕ
next_size size None = 0
next_size size (Some cursor) = unwrap_or size cursor.block_size

abbrev pub most_length : Command → Given → Statements → ℕ
most_length Opnqry given k = opening_length (unwrap_or (block_size_in given) 0)
most_length Cntqry given k = block_length (next_size (block_size_in given) (meant_cursor (name_in given) (query_instance_in given) k.sections))
most_length Clsqry given k = message_length
most_length command given k = 0
