use Rattle.sql_lex.proofs.Numbered.{all_numbered}
use Rattle.sql_lex.proofs.laws.markers_are_numbered.Goals as goal

pub returns : goal.returns
returns c = all_numbered
