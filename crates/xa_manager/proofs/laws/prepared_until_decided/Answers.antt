use Rattle.xa_manager.proofs.AllCalls.{prepared_stays, prepared_outlives, only_prepared_decided}
use Rattle.xa_manager.proofs.laws.prepared_until_decided.Goals as goal

pub returns-clause-stays : goal.returns-clause-stays
returns-clause-stays c = prepared_stays

pub returns-clause-outlives : goal.returns-clause-outlives
returns-clause-outlives c = prepared_outlives

pub returns-clause-decided : goal.returns-clause-decided
returns-clause-decided c = only_prepared_decided
