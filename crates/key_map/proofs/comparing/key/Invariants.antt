-- What is found of the rest is found of the whole.
use Rattle.std.proofs.Common.{drop}
use Rattle.row_values.specs.Schema.{picked}
use Rattle.key_map.specs.SortForm.{values_form}
use Rattle.key_map.specs.declared.front.Front.{Front}
use Rattle.key_map.specs.Fronts.{Compares}
use Rattle.key_map.specs.RowForm.{row_form, values_read}
use Rattle.key_map.proofs.comparing.key.Given as goal

abbrev pub invariant-loop-place : goal.invariant-loop-place
invariant-loop-place l = (o : Front) → Compares l.rest (values_form (picked (values_read l.schema.columns l.row) (drop l.place-index l.schema.key))) o → Compares l.fn.form (row_form l.schema l.row) o
