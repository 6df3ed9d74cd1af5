use Rattle.durable_core.proofs.Leaving.{early_units_are_whole}
use Rattle.durable_core.proofs.laws.early_units_are_whole.Goals as goal

pub returns : goal.returns
returns g c = early_units_are_whole g.D.Disk.is_modelled g.D.Disk.life c.images_open_to_one_state.ensures
