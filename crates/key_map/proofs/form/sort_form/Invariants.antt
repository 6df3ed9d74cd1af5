-- What is written and the forms of the values that are left are the whole.
use Rattle.std.proofs.Common.{◌≡◌, ◌++◌}
use Rattle.row_values.specs.KeyValues.{values_left}
use Rattle.key_map.specs.SortForm.{sort_form, values_form}
use Rattle.key_map.proofs.form.sort_form.Given as goal

abbrev pub invariant-loop-value : goal.invariant-loop-value
invariant-loop-value l = l.form.items ++ values_form (values_left l.value-iterator) ≡ sort_form l.fn.schema l.fn.key
