use Rattle.durable_core.proofs.Damaged.{one_damage}
use Rattle.durable_core.proofs.laws.damage_is_at_one_offset.Goals as goal

pub returns : goal.returns
returns c = one_damage c.checkpoints_are_known.ensures.one c.checkpoints_are_known.ensures.sound c.one_first_bad_of_half.ensures c.a_region_has_one_reading.ensures c.records_lead_one_way.ensures.one
