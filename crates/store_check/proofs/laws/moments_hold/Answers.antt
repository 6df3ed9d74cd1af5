use Rattle.store_check.proofs.Holding.{moments}
use Rattle.store_check.proofs.laws.moments_hold.Goals as goal

pub returns : goal.returns
returns c = moments c.checkpoints_are_known.ensures.framed
