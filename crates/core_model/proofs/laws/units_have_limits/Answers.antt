use Rattle.core_model.proofs.Telling.{changes_have_a_limit, claims_have_a_limit}
use Rattle.core_model.proofs.laws.units_have_limits.Goals as goal

pub returns-clause-claims : goal.returns-clause-claims
returns-clause-claims c = claims_have_a_limit

pub returns-clause-bytes : goal.returns-clause-bytes
returns-clause-bytes c = changes_have_a_limit
