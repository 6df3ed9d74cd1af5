-- The row is put at the form of its key.
use Rattle.std.proofs.Common.{◌≡◌, true, option_map, ap, subst, sym, ◌∙◌, true≢false}
use Rattle.std.specs.Arc.{arc_value}
use Rattle.key_map.specs.RowForm.{row_form}
use Rattle.table_map.specs.Keyed.{keyed_rows}
use Rattle.tables.specs.Tables.{put_row}
use Rattle.row_values.specs.Schema.{Schema, is_schema}
use Rattle.paged_tables.specs.Stored.{HaveForms, Stored, shown}
use Rattle.paged_tables.proofs.Changing.{put_there, with_changes}
use Rattle.paged_tables.proofs.FormLaws.{forms_put, some_bytes}
use Rattle.paged_tables.proofs.Shown.{put_created, row_there}
use Rattle.paged_tables.proofs.stored_table.StoredTable.put_at.Goals as goal

pub put_reserved-requires-clause-row : goal.put_reserved-requires-clause-row
put_reserved-requires-clause-row c =
    let one = row_there (record { schema = arc_value c.self.inside.schema; is_created = c.self.inside.is_created; places = c.self.inside.rows.places; base = keyed_rows (row_form (arc_value c.self.inside.schema)) c.self.inside.base.listed.value; changes = c.self.inside.rows.overlay }) c.args.self.now c.args.row.items c.args.form.now c.self.view_is c.if-self.true c.requires.row in
    some_bytes (arc_value c.self.inside.schema) c.args.row.items (subst (λ (s : Schema). is_schema s ≡ true) c.deref.ensures c.columns-columns.ensures.good) one.good

pub invariant_of-self : goal.invariant_of-self
invariant_of-self c =
    let schema = arc_value c.self.inside.schema in
    let base = c.self.inside.base.listed.value in
    let one = row_there (record { schema = arc_value c.self.inside.schema; is_created = c.self.inside.is_created; places = c.self.inside.rows.places; base = keyed_rows (row_form (arc_value c.self.inside.schema)) c.self.inside.base.listed.value; changes = c.self.inside.rows.overlay }) c.args.self.now c.args.row.items c.args.form.now c.self.view_is c.if-self.true c.requires.row in
    record {
      order = c.self.invariant.order;
      forms = subst (HaveForms schema) (sym (put_there (row_form schema) base c.self.invariant.order c.self.inside.rows c.put_reserved.new.self c.args.form.now c.args.row.items c.put_reserved.ensures.rows))
          (forms_put schema c.args.form.now c.args.row.items (with_changes (row_form schema) base c.self.inside.rows) one c.self.invariant.forms);
      empty = λ none. absurd (true≢false (sym c.if-self.true ∙ none));
    }

pub returns-then-self-clause-shown : goal.returns-then-self-clause-shown
returns-then-self-clause-shown c =
    let schema = arc_value c.self.inside.schema in
    let base = c.self.inside.base.listed.value in
    let one = row_there (record { schema = arc_value c.self.inside.schema; is_created = c.self.inside.is_created; places = c.self.inside.rows.places; base = keyed_rows (row_form (arc_value c.self.inside.schema)) c.self.inside.base.listed.value; changes = c.self.inside.rows.overlay }) c.args.self.now c.args.row.items c.args.form.now c.self.view_is c.if-self.true c.requires.row in
    put_created schema c.self.inside.is_created (with_changes (row_form schema) base c.self.inside.rows) (with_changes (row_form schema) base c.put_reserved.new.self) c.args.row.items c.args.form.now c.if-self.true one c.self.invariant.forms
    (put_there (row_form schema) base c.self.invariant.order c.self.inside.rows c.put_reserved.new.self c.args.form.now c.args.row.items c.put_reserved.ensures.rows)
    ∙ ap (λ (t : Stored). option_map (put_row c.args.row.items) (shown t)) c.self.view_is
