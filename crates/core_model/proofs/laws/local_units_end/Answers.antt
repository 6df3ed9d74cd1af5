use Rattle.core_model.proofs.Happening.{global_units_stay, local_units_end}
use Rattle.core_model.proofs.laws.local_units_end.Goals as goal

pub returns-clause-ended : goal.returns-clause-ended
returns-clause-ended c = local_units_end

pub returns-clause-joined : goal.returns-clause-joined
returns-clause-joined c = global_units_stay
