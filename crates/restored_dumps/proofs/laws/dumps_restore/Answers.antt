use Rattle.restored_dumps.proofs.Stores.{restored}
use Rattle.restored_dumps.proofs.laws.dumps_restore.Goals as goal

pub returns : goal.returns
returns c = restored
