use Rattle.recovery.proofs.Adding.{records_stay}
use Rattle.recovery.proofs.images.records_stay.Goals as goal

pub returns : goal.returns
returns c = records_stay c.groups_stay.ensures
