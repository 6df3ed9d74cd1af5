use Rattle.std.proofs.Common.{◌≡◌, length, map}
use Rattle.row_values.specs.Row.{values_in}
use Rattle.row_values.specs.RowView.{row_in, schema_in}
use Rattle.row_values.specs.Value.{value_of}
use Rattle.sql_changes.specs.Assigned.{all_set}
use Rattle.sql_changes.proofs.updated_row.all_set.Given as goal

abbrev pub invariant-targets : goal.invariant-targets
invariant-targets l =
    let old = values_in (schema_in l.row) (row_in l.row) in
    all_set old (schema_in l.row).columns l.left (map value_of l.values.items) ≡ all_set old (schema_in l.row).columns l.targets old

abbrev pub decreases-targets : goal.decreases-targets
decreases-targets l = length l.left
