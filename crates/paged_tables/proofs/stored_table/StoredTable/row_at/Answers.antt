-- The row at a form, behind the changes.
use Rattle.std.proofs.Common.{◌≡◌, IfOk, true, ap, subst, sym, ◌∙◌}
use Rattle.std.specs.Arc.{arc_value}
use Rattle.key_map.specs.Merging.{row_at}
use Rattle.key_map.specs.RowForm.{row_form}
use Rattle.key_map.specs.Overlay.{changes_of}
use Rattle.row_values.specs.Schema.{Schema, is_schema}
use Rattle.table_map.specs.Judged.{IsKnown}
use Rattle.table_map.specs.Keyed.{copied, keyed_rows}
use Rattle.table_map.proofs.Knowing.{KnownSo, known_so}
use Rattle.paged_tables.specs.Stored.{IsRowAt, Stored}
use Rattle.paged_tables.proofs.Reading.{read_there}
use Rattle.paged_tables.proofs.Scanned.{known_row}
use Rattle.paged_tables.proofs.stored_table.StoredTable.row_at.Goals as goal

pub returns-clause-found : goal.returns-clause-found
returns-clause-found g c = λ modelled is.
    read_there (λ rows. IfOk c.get.result (λ found. copied found.row ≡ row_at c.args.form.now rows))
    (record { schema = arc_value c.self.inside.schema; is_created = c.self.inside.is_created; places = c.self.inside.rows.places; base = keyed_rows (row_form (arc_value c.self.inside.schema)) c.self.inside.base.listed.value; changes = c.self.inside.rows.overlay })
    c.args.self.now c.deref-schema.result.now (g.D.Disk.life c.args.pager.now).seen c.self.view_is c.deref-schema.ensures is
    (λ pages stand. c.get.ensures.found pages modelled stand)

pub returns-clause-judged : goal.returns-clause-judged
returns-clause-judged g c =
    let k = arc_value c.self.inside.schema in
    let s = c.deref-schema.result.now in
    let same : s ≡ k = c.deref-schema.ensures in
    let q = c.args.form.now in
    let t : Stored = record { schema = k; is_created = c.self.inside.is_created; places = c.self.inside.rows.places; base = keyed_rows (row_form k) c.self.inside.base.listed.value; changes = c.self.inside.rows.overlay } in
    let whole : is_schema k ≡ true = ap is_schema (sym same) ∙ c.columns-columns.ensures.good in
    let known = subst (λ (x : Schema). KnownSo (IsKnown (row_form x) x q (changes_of t.changes)) c.get.result) same c.get.ensures.judged in
    subst (λ (u : Stored). KnownSo (λ row. IsRowAt u.schema row q) c.get.result) c.self.view_is
    (known_so (IsKnown (row_form k) k q (changes_of t.changes)) (λ row. IsRowAt k row q) (known_row c.rows_stand_at_their_forms.ensures t c.self.invariant whole q) c.get.result known)
