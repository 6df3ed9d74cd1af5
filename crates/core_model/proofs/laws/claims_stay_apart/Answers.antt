use Rattle.core_model.proofs.Standing.{claims_stay_few, units_stay_apart}
use Rattle.core_model.proofs.laws.claims_stay_apart.Goals as goal

pub returns-clause-apart : goal.returns-clause-apart
returns-clause-apart c = units_stay_apart c.adding.ensures c.clash_is_symmetric.ensures

pub returns-clause-few : goal.returns-clause-few
returns-clause-few c = claims_stay_few c.adding.ensures
