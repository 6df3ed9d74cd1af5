use Rattle.xa_manager.proofs.AllCalls.{joined_is_active}
use Rattle.xa_manager.proofs.laws.works_while_active.Goals as goal

pub returns : goal.returns
returns c = joined_is_active
