use Rattle.sql_lex.proofs.Spelled.{all_spelled}
use Rattle.sql_lex.proofs.laws.tokens_are_spelled_so.Goals as goal

pub returns : goal.returns
returns c = all_spelled
