-- A row has bytes, so it is put and not removed, at the form of its key.
use Rattle.std.proofs.Common.{◌≡◌, ◌∙◌, true, rules}
use Rattle.row_values.specs.Row.{is_row}
use Rattle.key_map.proofs.KeyBytes.{key_bytes}
use Rattle.unit_changes.proofs.Steps.{put_said}
use Rattle.unit_changes.proofs.key_change.put_of.Goals as goal

pub returns-clause-said : goal.returns-clause-said
returns-clause-said c =
    let row : is_row c.args.schema.now c.args.row.now ≡ true = search rules in
    put_said c.args.schema.now c.args.row.now c.in_ok-form.form.items c.in_ok-row.row.items c.columns-columns.ensures.good row
    (c.in_ok-form.ensures ∙ c.rows_have_their_forms.ensures c.args.schema.now c.args.row.now c.columns-columns.ensures.good row) c.in_ok-row.ensures.items

pub returns-clause-bytes : goal.returns-clause-bytes
returns-clause-bytes c is = (
  key_bytes c.rows_have_values_and_keys.ensures.values c.args.schema.now c.args.row.now (λ i. (c.type_inv.row i).fits) is,
  c.rows_have_values_and_keys.ensures.keys c.args.schema.now c.args.row.now c.columns-columns.ensures.good (λ i. (c.type_inv.row i).fits) is,
)
