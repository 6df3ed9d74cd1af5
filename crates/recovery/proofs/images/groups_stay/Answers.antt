use Rattle.recovery.proofs.Adding.{groups_stay}
use Rattle.recovery.proofs.images.groups_stay.Goals as goal

pub returns : goal.returns
returns c = groups_stay c.records_lead_one_way.ensures.written c.checkpoints_are_known.ensures.framed
