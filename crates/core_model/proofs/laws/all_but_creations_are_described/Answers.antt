use Rattle.core_model.proofs.Telling.{all_but_creations_are_described}
use Rattle.core_model.proofs.laws.all_but_creations_are_described.Goals as goal

pub returns : goal.returns
returns c = all_but_creations_are_described
