-- What is written and the form of the values that are left are the whole.
use Rattle.std.proofs.Common.{◌≡◌, ◌++◌, drop}
use Rattle.row_values.specs.Schema.{picked}
use Rattle.key_map.specs.SortForm.{values_form}
use Rattle.key_map.specs.RowForm.{row_form, values_read}
use Rattle.key_map.proofs.writing.put_row_form.Given as goal

abbrev pub invariant-loop-place : goal.invariant-loop-place
invariant-loop-place l = l.form.items ++ values_form (picked (values_read l.schema.columns l.row) (drop l.place-index l.schema.key)) ≡ l.fn.form.items ++ row_form l.schema l.row
