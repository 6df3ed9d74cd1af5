use Rattle.unit_locks.proofs.Symmetry.{clash_turned}
use Rattle.unit_locks.proofs.laws.clash_is_symmetric.Goals as goal

pub returns : goal.returns
returns c = clash_turned
