use Rattle.sql_lex.proofs.Readable.{all_readable}
use Rattle.sql_lex.proofs.laws.texts_are_utf8.Goals as goal

pub returns : goal.returns
returns c = all_readable
