use Rattle.xa_manager.proofs.AllCalls.{moves_one}
use Rattle.xa_manager.proofs.laws.moves_one_branch.Goals as goal

pub returns : goal.returns
returns c = moves_one
