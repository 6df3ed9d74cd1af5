use Rattle.recovery.proofs.Sounding.{states_stay_sound}
use Rattle.recovery.proofs.laws.states_stay_sound.Goals as goal

pub returns : goal.returns
returns c = states_stay_sound c.changes_are_local.ensures.kept
