use Rattle.recovery.proofs.Reading.{opens_there}
use Rattle.recovery.proofs.images.images_open_there.Goals as goal

pub returns : goal.returns
returns c = opens_there
