use Rattle.ebcdic_500.proofs.Pairs.{back, forth}
use Rattle.ebcdic_500.proofs.table.is_one_to_one.Goals as goal

pub returns : goal.returns
returns c = λ b x lt. (back b x lt, forth b x)
