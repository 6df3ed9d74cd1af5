-- All rows stand on the pages, at the forms of their keys.
use Rattle.std.proofs.Common.{◌≡◌, true, ap, subst, ◌∙◌}
use Rattle.std.specs.Arc.{arc_value}
use Rattle.key_map.specs.Merging.{merged}
use Rattle.key_map.specs.Overlay.{changes_of}
use Rattle.key_map.specs.RowForm.{row_form}
use Rattle.row_values.specs.Schema.{Schema, is_schema}
use Rattle.table_map.specs.Keyed.{keyed_rows}
use Rattle.table_map.specs.Stored.{Places}
use Rattle.table_map.specs.Table.{without_keys}
use Rattle.paged_tables.specs.Stored.{Stored, laid_anew, rows_in}
use Rattle.paged_tables.proofs.Reading.{laid_is, laid_stored}
use Rattle.paged_tables.proofs.Shown.{forms_back}
use Rattle.paged_tables.proofs.stored_table.StoredTable.relay.Goals as goal

pub invariant_of-self : goal.invariant_of-self
invariant_of-self c =
    let schema = arc_value c.self.inside.schema in
    let old : Stored = record { schema = arc_value c.self.inside.schema; is_created = c.self.inside.is_created; places = c.self.inside.rows.places; base = keyed_rows (row_form (arc_value c.self.inside.schema)) c.self.inside.base.listed.value; changes = c.self.inside.rows.overlay } in
    let good : is_schema schema ≡ true = subst (λ (s : Schema). is_schema s ≡ true) c.deref-schema.ensures c.columns-columns.ensures.good in
    let same : keyed_rows (row_form schema) c.set.new.self.value ≡ rows_in old =
    ap (keyed_rows (row_form schema)) (c.set.ensures ∙ ap (λ (s : Schema). without_keys (merged (keyed_rows (row_form s) c.self.inside.base.listed.value) (changes_of c.self.inside.rows.overlay))) c.deref-schema.ensures)
    ∙ forms_back c.rows_have_their_forms.ensures schema (rows_in old) good c.self.invariant.forms in
    laid_stored old c.new.result.places (keyed_rows (row_form schema) c.set.new.self.value) c.new.result.overlay same c.new.ensures.overlay c.self.invariant

pub returns : goal.returns
returns c =
    let schema = arc_value c.self.inside.schema in
    let old : Stored = record { schema = arc_value c.self.inside.schema; is_created = c.self.inside.is_created; places = c.self.inside.rows.places; base = keyed_rows (row_form (arc_value c.self.inside.schema)) c.self.inside.base.listed.value; changes = c.self.inside.rows.overlay } in
    let good : is_schema schema ≡ true = subst (λ (s : Schema). is_schema s ≡ true) c.deref-schema.ensures c.columns-columns.ensures.good in
    let same : keyed_rows (row_form schema) c.set.new.self.value ≡ rows_in old =
    ap (keyed_rows (row_form schema)) (c.set.ensures ∙ ap (λ (s : Schema). without_keys (merged (keyed_rows (row_form s) c.self.inside.base.listed.value) (changes_of c.self.inside.rows.overlay))) c.deref-schema.ensures)
    ∙ forms_back c.rows_have_their_forms.ensures schema (rows_in old) good c.self.invariant.forms in
    laid_is old c.new.result.places (keyed_rows (row_form schema) c.set.new.self.value) c.new.result.overlay same c.new.ensures.overlay
    ∙ ap (λ (p : Places). laid_anew p old) c.new.ensures.places
    ∙ ap (laid_anew c.args.pages) c.self.view_is
