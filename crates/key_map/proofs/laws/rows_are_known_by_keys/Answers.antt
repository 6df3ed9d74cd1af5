use Rattle.key_map.proofs.Known.{known}
use Rattle.key_map.proofs.laws.rows_are_known_by_keys.Goals as goal

pub returns : goal.returns
returns c = known
