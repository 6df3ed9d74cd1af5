-- What is done from here on is done from the start on.
use Rattle.std.proofs.Common.{ℕ, List, [], ◌∷◌, length}
use Rattle.key_map.specs.Merging.{Rows}
use Rattle.table_map.specs.Passing.{Passes}
use Rattle.table_map.proofs.page_scan.push_row.Given as goal

abbrev pub invariant-loop-rows : goal.invariant-loop-rows
invariant-loop-rows g l = (last : Rows) (end : List (List ℕ)) → Passes (g.K.RowKeys.key_of l.keys) (l.row ∷ []) l.changes last l.rows end → Passes (g.K.RowKeys.key_of l.keys) (l.row ∷ []) l.fn.changes last l.fn.rows end

abbrev pub decreases-loop-rows : goal.decreases-loop-rows
decreases-loop-rows g l = length l.changes
