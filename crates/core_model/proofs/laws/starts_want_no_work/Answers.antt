use Rattle.core_model.proofs.Telling.{starts_want_no_work}
use Rattle.core_model.proofs.laws.starts_want_no_work.Goals as goal

pub returns : goal.returns
returns c = starts_want_no_work
