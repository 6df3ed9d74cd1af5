use Rattle.recovery.proofs.Reading.{opens_to_one}
use Rattle.recovery.proofs.images.images_open_to_one_state.Goals as goal

pub returns : goal.returns
returns c = opens_to_one c.a_region_has_one_reading.ensures c.checkpoints_are_known.ensures.one c.records_lead_one_way.ensures.one
