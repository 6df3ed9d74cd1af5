use Rattle.recovery.proofs.Reading.{fresh_stores_open}
use Rattle.recovery.proofs.images.fresh_stores_open.Goals as goal

pub returns : goal.returns
returns c = fresh_stores_open c.checkpoints_are_known.ensures.none
