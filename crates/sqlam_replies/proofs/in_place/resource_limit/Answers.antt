use Rattle.std.proofs.Common.{refl}
use Rattle.ddm_objects.specs.Writing.{spelled}
use Rattle.sqlam_replies.proofs.in_place.resource_limit.Goals as goal

pub returns : goal.returns
unfolding spelled
returns c = refl
