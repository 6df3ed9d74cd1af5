use Rattle.sql_lex.proofs.Parts.{all_stand}
use Rattle.sql_lex.proofs.laws.parts_stand_in_the_text.Goals as goal

pub returns : goal.returns
returns c = λ text. all_stand text
