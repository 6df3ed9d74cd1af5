-- The form is that of the row's key.
use Rattle.std.proofs.Common.{sym}
use Rattle.paged_tables.proofs.KeyBytes.{row_formed}
use Rattle.paged_tables.proofs.stored_table.form_of_row.Goals as goal

pub returns : goal.returns
returns c =
    row_formed c.rows_have_values_and_keys.ensures.values c.rows_have_values_and_keys.ensures.keys c.rows_have_their_forms.ensures c.args.schema.now c.args.row.now c.in_ok-row_form.field-0.items
    c.columns-columns.ensures.good (λ i. (c.type_inv.row i).fits) (sym c.in-Ok.ensures.only) c.in_ok-row_form.ensures
