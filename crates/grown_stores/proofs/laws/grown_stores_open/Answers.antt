use Rattle.grown_stores.proofs.Grown.{opens}
use Rattle.grown_stores.proofs.laws.grown_stores_open.Goals as goal

pub returns : goal.returns
returns g = opens
