use Rattle.xa_manager.proofs.AllCalls.{refusals_do_nothing}
use Rattle.xa_manager.proofs.laws.refusals_do_nothing.Goals as goal

pub returns : goal.returns
returns c = refusals_do_nothing
