use Rattle.key_map.proofs.Merged.{merged_found, merged_order}
use Rattle.key_map.proofs.laws.changes_win.Goals as goal

pub returns-clause-at : goal.returns-clause-at
returns-clause-at c = merged_found

pub returns-clause-order : goal.returns-clause-order
returns-clause-order c = merged_order
