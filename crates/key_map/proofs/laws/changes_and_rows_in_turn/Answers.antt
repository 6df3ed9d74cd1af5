use Rattle.key_map.proofs.Between.{change_first, change_here, row_first}
use Rattle.key_map.proofs.laws.changes_and_rows_in_turn.Goals as goal

pub returns-clause-change : goal.returns-clause-change
returns-clause-change c = change_first

pub returns-clause-row : goal.returns-clause-row
returns-clause-row c = row_first

pub returns-clause-both : goal.returns-clause-both
returns-clause-both c = change_here
