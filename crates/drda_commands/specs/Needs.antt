-- What an accepted command has brought: each item that it requires (DRDA V5 volume 3).
use Rattle.std.specs.Prelude.{◌≤◌, IsSome, IfSome, length}
use Rattle.drda_commands.specs.declared.table.Command.{Command}
use Rattle.drda_commands.specs.declared.table.Command.TheVariants.{Excsqlimm, Prpsqlstt, Dscsqlstt, Excsqlstt, Opnqry, Cntqry, Clsqry, Syncctl}
use Rattle.drda_commands.specs.Given.{Given}
use Rattle.drda_commands.specs.Values.{section_in, statement_in, block_size_in, sync_type_in}

-- the name of a section, which has 64 to 791 bytes
abbrev pub HasSection : Given → Type 0
HasSection given = IsSome (section_in given) × IfSome (section_in given) (λ name. (64 ≤ length name) × (length name ≤ 791))

-- the section, the statement, the size of a block and the call of XA, of the commands that require them
abbrev pub Needs : Command → Given → Type 0
Needs Excsqlimm given = IsSome (statement_in given)
Needs Prpsqlstt given = HasSection given × IsSome (statement_in given)
Needs Dscsqlstt given = HasSection given
Needs Excsqlstt given = HasSection given
Needs Opnqry given = HasSection given × IsSome (block_size_in given)
Needs Cntqry given = HasSection given
Needs Clsqry given = HasSection given
Needs Syncctl given = IsSome (sync_type_in given)
Needs command given = Unit {0}
