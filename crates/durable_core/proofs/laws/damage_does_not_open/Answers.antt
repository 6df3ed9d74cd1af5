use Rattle.durable_core.proofs.Damaged.{damage_opens_not}
use Rattle.durable_core.proofs.laws.damage_does_not_open.Goals as goal

pub returns : goal.returns
returns c = damage_opens_not c.checkpoints_are_known.ensures.one c.checkpoints_are_known.ensures.sound c.a_region_has_one_reading.ensures c.records_lead_one_way.ensures.one c.images_open_there.ensures
