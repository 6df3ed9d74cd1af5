use Rattle.recovery.proofs.Sounding.{leads_are_sound}
use Rattle.recovery.proofs.laws.records_lead_to_sound_states.Goals as goal

pub returns : goal.returns
returns c = leads_are_sound c.states_stay_sound.ensures
