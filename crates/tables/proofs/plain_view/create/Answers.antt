-- A table of a new name goes to its place.
use Rattle.std.proofs.Common.{ap, refl, sym, ◌∙◌}
use Rattle.std.specs.List.{list_any}
use Rattle.std.specs.String.{string_bytes}
use Rattle.row_values.specs.Schema.{Schema}
use Rattle.tables.specs.Change.{create}
use Rattle.tables.specs.Tables.{apply}
use Rattle.tables.specs.Plain.{is_named, rows_in, store_of, tables_before}
use Rattle.tables.proofs.PlainTables.{created, not_created}
use Rattle.tables.proofs.plain_view.create.Goals as goal

pub returns-then-is_known-clause-applied : goal.returns-then-is_known-clause-applied
returns-then-is_known-clause-applied c =
    let known = sym c.if-is_known.true ∙ c.is_known.ensures ∙ ap (λ name. list_any (is_named name) c.as_slice.result.now) c.as_str.ensures.value in
    not_created (string_bytes c.args.name) c.args.schema c.as_slice.result.now c.args.tables.now.items c.as_slice.ensures.value known

pub returns-clause-applied : goal.returns-clause-applied
returns-clause-applied c =
    let unknown = sym c.if-is_known.false ∙ c.is_known.ensures ∙ ap (λ name. list_any (is_named name) c.as_slice.result.now) c.as_str.ensures.value in
    let at = c.place_for-place.ensures.place ∙ ap (λ name. tables_before name c.as_slice-2.result.now) c.as_str-2.ensures.value in
    ap store_of c.in_ok-insert.ensures.items
    ∙ created (string_bytes c.args.name) c.as_slice.result.now c.as_slice-2.result.now c.args.tables.now.items (record { name = c.args.name; schema = c.in_ok-schema.schema; rows = c.new-2.result }) c.place_for-place.result
    c.as_slice.ensures.value c.as_slice-2.ensures.value unknown at refl (ap rows_in c.new-2.ensures.items)
    ∙ ap (λ (s : Schema). apply (create (string_bytes c.args.name) s) (store_of c.args.tables.now.items)) c.in_ok-schema.ensures.ok
