use Rattle.xa_manager.proofs.AllCalls.{heuristic_stays, heuristic_outlives, decides_one}
use Rattle.xa_manager.proofs.laws.heuristic_until_forgotten.Goals as goal

pub returns-clause-stays : goal.returns-clause-stays
returns-clause-stays c = heuristic_stays

pub returns-clause-outlives : goal.returns-clause-outlives
returns-clause-outlives c = heuristic_outlives

pub returns-clause-one : goal.returns-clause-one
returns-clause-one c = decides_one
