-- The rows at their forms are the rows at their keys.
use Rattle.std.proofs.Common.{◌≡◌, ◌++◌, ℕ, List, true, ap, refl, subst, sym, ◌∙◌}
use Rattle.std.specs.Arc.{arc_value}
use Rattle.key_map.specs.Overlay.{changes_of}
use Rattle.key_map.specs.RowForm.{row_form}
use Rattle.row_pages.specs.Judging.{do_rise}
use Rattle.row_values.specs.Schema.{Schema, is_schema}
use Rattle.table_map.specs.Judged.{IsScanned, RiseByKeys}
use Rattle.table_map.specs.Keyed.{keyed_rows}
use Rattle.table_map.specs.Table.{without_keys}
use Rattle.paged_tables.specs.Stored.{Stored, rows_in}
use Rattle.paged_tables.proofs.FormLaws.{values_at_keys}
use Rattle.paged_tables.proofs.Reading.{read_there}
use Rattle.paged_tables.proofs.Scanned.{judged_rise, scanned_rise}
use Rattle.paged_tables.proofs.stored_table.StoredTable.scan.Goals as goal

pub returns-in-Ok-clause-rows : goal.returns-in-Ok-clause-rows
returns-in-Ok-clause-rows g c = λ modelled is.
    read_there (λ rows. c.scan_judged.new.rows ≡ c.new-rows.result ++ without_keys rows)
    (record { schema = arc_value c.self.inside.schema; is_created = c.self.inside.is_created; places = c.self.inside.rows.places; base = keyed_rows (row_form (arc_value c.self.inside.schema)) c.self.inside.base.listed.value; changes = c.self.inside.rows.overlay })
    c.args.self.now c.deref-schema.result.now (g.D.Disk.life c.args.pager.now).seen c.self.view_is c.deref-schema.ensures is
    (λ pages stand. c.in-Ok.ensures.rows pages modelled stand)
    ∙ ap (λ (l : List (List ℕ)). l ++ without_keys (rows_in c.args.self.now)) c.new-rows.ensures
    ∙ values_at_keys c.args.self.now.schema (rows_in c.args.self.now)

pub returns-in-Ok-clause-judged : goal.returns-in-Ok-clause-judged
returns-in-Ok-clause-judged g c good =
    let k = arc_value c.self.inside.schema in
    let s = c.deref-schema.result.now in
    let same : s ≡ k = c.deref-schema.ensures in
    let t : Stored = record { schema = k; is_created = c.self.inside.is_created; places = c.self.inside.rows.places; base = keyed_rows (row_form k) c.self.inside.base.listed.value; changes = c.self.inside.rows.overlay } in
    let whole : is_schema k ≡ true = ap is_schema (sym same) ∙ c.columns-columns.ensures.good in
    let law = c.rows_stand_at_their_forms.ensures in
    let rise = subst (λ (x : Schema). RiseByKeys (row_form x) k) (sym same) (judged_rise k law whole) in
    let so = subst (λ (x : Schema). IsScanned (row_form x) k (changes_of t.changes) c.new-rows.result c.scan_judged.new.rows) same (c.in-Ok.ensures.judged k refl rise good) in
    let all = subst (λ (old : List (List ℕ)). IsScanned (row_form k) k (changes_of t.changes) old c.scan_judged.new.rows) c.new-rows.ensures so in
    subst (λ (u : Stored). do_rise u.schema c.scan_judged.new.rows ≡ true) c.self.view_is (scanned_rise law t c.self.invariant whole c.scan_judged.new.rows all)
