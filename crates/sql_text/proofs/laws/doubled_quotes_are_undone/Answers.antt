use Rattle.sql_text.proofs.Undone.{undone}
use Rattle.sql_text.proofs.laws.doubled_quotes_are_undone.Goals as goal

pub returns : goal.returns
returns c = λ z. undone z
