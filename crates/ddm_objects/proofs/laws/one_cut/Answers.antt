use Rattle.ddm_objects.proofs.Walking.{cut_once}
use Rattle.ddm_objects.proofs.laws.one_cut.Goals as goal

pub returns : goal.returns
returns c = cut_once
