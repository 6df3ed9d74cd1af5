-- It has no rows.
use Rattle.std.proofs.Common.{false, ap}
use Rattle.std.specs.Arc.{arc_value}
use Rattle.key_map.specs.RowForm.{row_form}
use Rattle.table_map.specs.Keyed.{keyed_rows}
use Rattle.paged_tables.proofs.Reading.{bare_stored}
use Rattle.paged_tables.proofs.stored_table.StoredTable.new.Goals as goal

pub invariant_of-result : goal.invariant_of-result
invariant_of-result c =
    bare_stored (arc_value c.args.schema) false c.new-3.result.places (keyed_rows (row_form (arc_value c.args.schema)) c.none.result.listed.value) c.new-3.result.overlay
    (ap (keyed_rows (row_form (arc_value c.args.schema))) c.none.ensures) c.new-3.ensures.overlay
