use Rattle.core_model.proofs.Losing.{lost_leaves_nothing}
use Rattle.core_model.proofs.laws.lost_leaves_nothing.Goals as goal

pub returns : goal.returns
returns c = lost_leaves_nothing
