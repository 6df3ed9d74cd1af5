use Rattle.core_model.proofs.Telling.{descriptions_claim_nothing}
use Rattle.core_model.proofs.laws.descriptions_claim_nothing.Goals as goal

pub returns : goal.returns
returns c = descriptions_claim_nothing
