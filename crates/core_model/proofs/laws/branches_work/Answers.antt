use Rattle.core_model.proofs.Happening.{branches_work}
use Rattle.core_model.proofs.laws.branches_work.Goals as goal

pub returns : goal.returns
returns c = branches_work
