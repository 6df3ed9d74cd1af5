-- The row goes to the place of its key.
use Rattle.std.proofs.Common.{ap, refl, sym, ◌∙◌}
use Rattle.std.specs.List.{slice_get}
use Rattle.tables.specs.Plain.{is_of_key, rows_before, rows_in}
use Rattle.tables.proofs.PlainTables.{row_added, row_replaced}
use Rattle.tables.proofs.plain_table.put_entry.Goals as goal

pub returns-then-has_key_at-clause-applied : goal.returns-then-has_key_at-clause-applied
returns-then-has_key_at-clause-applied c =
    let at = c.place_for-place.ensures.place ∙ ap (λ key. rows_before c.args.schema.now key c.as_slice.result.now) c.as_slice-2.ensures.value in
    let here = sym c.if-has_key_at.true ∙ c.has_key_at.ensures ∙ ap (λ key. is_of_key key (slice_get c.as_slice-3.result.now c.place_for-place.result)) c.as_slice-4.ensures.value in
    row_replaced c.args.schema.now c.args.key.items c.args.row.items c.as_slice.result.now c.as_slice-3.result.now c.args.rows.now.items c.place_for-place.result c.index_mut.result.now (record { key = c.index_mut.result.now.key; row = c.args.row })
    c.as_slice.ensures.value c.as_slice-3.ensures.value at here c.index_mut.ensures.value refl

pub returns-clause-applied : goal.returns-clause-applied
returns-clause-applied c =
    let at = c.place_for-place.ensures.place ∙ ap (λ key. rows_before c.args.schema.now key c.as_slice.result.now) c.as_slice-2.ensures.value in
    let here = sym c.if-has_key_at.false ∙ c.has_key_at.ensures ∙ ap (λ key. is_of_key key (slice_get c.as_slice-3.result.now c.place_for-place.result)) c.as_slice-4.ensures.value in
    ap rows_in c.in_ok-insert.ensures.items
    ∙ row_added c.args.schema.now c.args.key.items c.args.row.items c.as_slice.result.now c.as_slice-3.result.now c.args.rows.now.items c.place_for-place.result (record { key = c.args.key; row = c.args.row })
    c.as_slice.ensures.value c.as_slice-3.ensures.value at here refl
