use Rattle.unit_locks.proofs.Bytes.{one}
use Rattle.unit_locks.proofs.laws.one_reading.Goals as goal

pub returns : goal.returns
returns c = one
