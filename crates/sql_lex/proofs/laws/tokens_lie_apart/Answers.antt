use Rattle.sql_lex.proofs.Apart.{all_apart}
use Rattle.sql_lex.proofs.laws.tokens_lie_apart.Goals as goal

pub returns : goal.returns
returns c = all_apart
