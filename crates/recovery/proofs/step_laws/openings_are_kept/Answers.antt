use Rattle.recovery.proofs.Opening.{openings_are_kept}
use Rattle.recovery.proofs.step_laws.openings_are_kept.Goals as goal

pub returns : goal.returns
returns c = openings_are_kept
