use Rattle.xa_manager.proofs.AllCalls.{actions_fit}
use Rattle.xa_manager.proofs.laws.actions_fit_states.Goals as goal

pub returns : goal.returns
returns c = actions_fit
