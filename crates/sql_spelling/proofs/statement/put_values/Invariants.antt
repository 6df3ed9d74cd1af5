-- What is written, and the values that are left, are the whole.
use Rattle.std.proofs.Common.{◌≡◌, ◌++◌, ◌∷◌}
use Rattle.std.specs.List.{flat_map}
use Rattle.row_values.specs.RowValues.{values_left}
use Rattle.sql_spelling.specs.Text.{separated, value_text}
use Rattle.sql_spelling.proofs.statement.put_values.Given as goal

abbrev pub invariant-loop-value : goal.invariant-loop-value
invariant-loop-value l = l.out.items ++ flat_map (λ v. 44 ∷ 32 ∷ value_text v) (values_left l.value-iterator) ≡ l.fn.out.items ++ separated value_text (values_left l.fn.values)
