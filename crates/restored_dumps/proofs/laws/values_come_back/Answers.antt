use Rattle.restored_dumps.proofs.Values.{value_comes_back}
use Rattle.restored_dumps.proofs.laws.values_come_back.Goals as goal

pub returns : goal.returns
returns c = value_comes_back
