use Rattle.sql_text.proofs.Undone.{bytes_small, pairs_back}
use Rattle.sql_text.proofs.laws.pairs_stand_for_bytes.Goals as goal

pub returns-clause-bytes : goal.returns-clause-bytes
returns-clause-bytes c = λ z pairs. bytes_small z pairs.0 pairs.1

pub returns-clause-written : goal.returns-clause-written
returns-clause-written c = λ z pairs. pairs_back z pairs.0 pairs.1
