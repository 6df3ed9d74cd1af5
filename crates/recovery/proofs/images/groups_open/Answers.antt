use Rattle.recovery.proofs.Adding.{groups_open}
use Rattle.recovery.proofs.images.groups_open.Goals as goal

pub returns : goal.returns
returns c = groups_open c.records_lead_one_way.ensures.written c.checkpoints_are_known.ensures.framed
