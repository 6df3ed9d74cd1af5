-- Without a form it is no key.
use Rattle.std.specs.Arc.{arc_value}
use Rattle.key_map.specs.RowForm.{row_form}
use Rattle.table_map.specs.Keyed.{keyed_rows}
use Rattle.paged_tables.proofs.Shown.{not_removed}
use Rattle.paged_tables.proofs.stored_table.StoredTable.remove.Goals as goal

pub returns-in_default-clause-shown : goal.returns-in_default-clause-shown
returns-in_default-clause-shown c = λ key bad.
    not_removed (record { schema = arc_value c.self.inside.schema; is_created = c.self.inside.is_created; places = c.self.inside.rows.places; base = keyed_rows (row_form (arc_value c.self.inside.schema)) c.self.inside.base.listed.value; changes = c.self.inside.rows.overlay }) c.args.self.now key c.args.form.now c.self.view_is c.self.invariant c.in_default.is bad
