use Rattle.std.proofs.Common.{◌≡◌, length}
use Rattle.row_values.specs.Row.{values_in}
use Rattle.row_values.specs.RowView.{row_in, schema_in}
use Rattle.row_values.specs.Value.{value_of}
use Rattle.sql_changes.specs.Assigned.{summed_from, total}
use Rattle.sql_changes.proofs.total.total.Given as goal

abbrev pub invariant-addends : goal.invariant-addends
invariant-addends l = let old = values_in (schema_in l.row) (row_in l.row) in summed_from old (value_of l.value) l.left ≡ total old l.sum

abbrev pub decreases-addends : goal.decreases-addends
decreases-addends l = length l.left
