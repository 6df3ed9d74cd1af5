use Rattle.xa_manager.proofs.AllCalls.{one_each_stays, one_each_outlives}
use Rattle.xa_manager.proofs.laws.joined_to_one.Goals as goal

pub returns-clause-stays : goal.returns-clause-stays
returns-clause-stays c = one_each_stays

pub returns-clause-outlives : goal.returns-clause-outlives
returns-clause-outlives c = one_each_outlives
