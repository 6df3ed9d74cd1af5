use Rattle.core_model.proofs.Asking.{claims_are_kept}
use Rattle.core_model.proofs.laws.claims_are_kept.Goals as goal

pub returns : goal.returns
returns c = claims_are_kept c.adding.ensures
