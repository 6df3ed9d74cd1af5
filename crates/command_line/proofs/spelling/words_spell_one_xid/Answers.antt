use Rattle.command_line.proofs.Spelled.{only, read, printed}
use Rattle.command_line.proofs.spelling.words_spell_one_xid.Goals as goal

pub returns-clause-only : goal.returns-clause-only
returns-clause-only c = only

pub returns-clause-read : goal.returns-clause-read
returns-clause-read c = read

pub returns-clause-printed : goal.returns-clause-printed
returns-clause-printed c = printed
