-- What is done from here on is done from the start on.
use Rattle.std.proofs.Common.{ℕ, List, length}
use Rattle.table_map.proofs.Passed.{PutsRest}
use Rattle.table_map.proofs.page_scan.push_changes.Given as goal

abbrev pub invariant-loop-entry : goal.invariant-loop-entry
invariant-loop-entry l = (end : List (List ℕ)) → PutsRest l.changes l.rows end → PutsRest l.fn.changes l.fn.rows end

abbrev pub decreases-loop-entry : goal.decreases-loop-entry
decreases-loop-entry l = length l.changes
