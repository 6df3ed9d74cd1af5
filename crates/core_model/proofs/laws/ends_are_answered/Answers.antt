use Rattle.core_model.proofs.Telling.{ends_are_answered}
use Rattle.core_model.proofs.laws.ends_are_answered.Goals as goal

pub returns : goal.returns
returns c = ends_are_answered
