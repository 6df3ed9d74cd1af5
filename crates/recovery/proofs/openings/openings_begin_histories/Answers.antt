use Rattle.recovery.proofs.Beginning.{images_begin, images_sound, openings_begin}
use Rattle.recovery.proofs.openings.openings_begin_histories.Goals as goal

pub returns-clause-states : goal.returns-clause-states
returns-clause-states c = openings_begin c.openings_are_kept.ensures

pub returns-clause-images : goal.returns-clause-images
returns-clause-images c = images_begin c.openings_are_kept.ensures c.checkpoints_are_known.ensures.stores c.records_lead_to_sound_states.ensures

pub returns-clause-sound : goal.returns-clause-sound
returns-clause-sound c = images_sound c.checkpoints_are_known.ensures.stores c.records_lead_to_sound_states.ensures
