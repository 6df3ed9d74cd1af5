use Rattle.sections.proofs.Looking.{prepared_keeps}
use Rattle.sections.proofs.laws.preparing_keeps_cursors.Goals as goal

pub returns : goal.returns
returns c = λ p s name. prepared_keeps p s.sections name
