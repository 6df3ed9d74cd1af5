use Rattle.unit_locks.proofs.AddedClaims.{adds}
use Rattle.unit_locks.proofs.laws.adding.Goals as goal

pub returns : goal.returns
returns c = adds
