use Rattle.recovery.proofs.Adding.{records_open}
use Rattle.recovery.proofs.images.records_open.Goals as goal

pub returns : goal.returns
returns c = records_open c.groups_open.ensures
