use Rattle.core_model.proofs.Happening.{heuristics_work}
use Rattle.core_model.proofs.laws.heuristics_work.Goals as goal

pub returns : goal.returns
returns c = heuristics_work
