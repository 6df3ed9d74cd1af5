-- What the commands on an open database do, whichever crate knows them (DRDA V5 volume 3: EXCSQLIMM, PRPSQLSTT,
-- DSCSQLSTT, EXCSQLSTT, RDBCMM, RDBRLLBCK; OPNQRY, CNTQRY, CLSQRY; SYNCCTL).
use Rattle.std.specs.Prelude.{Bool, ℕ, List}
use Rattle.drda_commands.specs.declared.table.Command.{Command}
use Rattle.drda_commands.specs.declared.table.Command.TheVariants.{Clsqry, Cntqry, Opnqry, Syncctl}
use Rattle.drda_commands.specs.Given.{Given}
use Rattle.command_kit.specs.declared.statements.Statements.{Statements}
use Rattle.command_kit.specs.Doing.{Doing}
use Rattle.sql_commands.specs.Commands as sql
use Rattle.cursor_commands.specs.Commands as cursors
use Rattle.sql_commands.specs.SyncControl as xa

-- unicode, the database's name as it is answered, the command, what it brought and what is kept; a command that
-- needs no open database does nothing here
abbrev pub doing : Bool → List ℕ → Command → Given → Statements → Doing
doing unicode rdb Opnqry given k = cursors.doing rdb Opnqry given k
doing unicode rdb Cntqry given k = cursors.doing rdb Cntqry given k
doing unicode rdb Clsqry given k = cursors.doing rdb Clsqry given k
doing unicode rdb Syncctl given k = xa.doing given k
doing unicode rdb command given k = sql.doing unicode rdb command given k
