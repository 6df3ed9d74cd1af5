use Rattle.recovery.proofs.Staying.{answered_stays}
use Rattle.recovery.proofs.images.answered_units_stay.Goals as goal

pub returns : goal.returns
returns g c = answered_stays c.records_follow_one_another.ensures.goes_on g.D.Disk.life
