use Rattle.recovery.proofs.Following.{fronts_stand, goes_on, one_more}
use Rattle.recovery.proofs.laws.records_follow_one_another.Goals as goal

pub returns : goal.returns
returns c = record { goes_on = goes_on; one_more = one_more; fronts = fronts_stand }
