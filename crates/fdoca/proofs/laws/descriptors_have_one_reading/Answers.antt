use Rattle.fdoca.proofs.Triplets.{one_description}
use Rattle.fdoca.proofs.laws.descriptors_have_one_reading.Goals as goal

pub returns : goal.returns
returns c = one_description
