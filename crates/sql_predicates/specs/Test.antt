-- What a predicate whose names and literals are resolved says of a row, by the row's values.
use Rattle.std.specs.Prelude.{ℕ, Bool, true, not, if◌then◌else◌, List, Option, Some, None, unwrap_or}
use Rattle.std.specs.List.{slice_get}
use Rattle.row_values.specs.Value.{Value, null}
use Rattle.sql_semantics.specs.Truth.{all_of, any_of, compared, holds, is_null, negated, truth_of}
use Rattle.sql_semantics.specs.declared.truth.Truth.{Truth}
use Rattle.sql_predicates.specs.Constant.{constant_value}
use Rattle.sql_predicates.specs.declared.filter.Filter.{Filter}
use Rattle.sql_predicates.specs.declared.operand.Operand.{Operand}
use Rattle.sql_predicates.specs.declared.operand.Operand.TheVariants as operand
use Rattle.sql_predicates.specs.declared.test.Test.{Test}
use Rattle.sql_predicates.specs.declared.test.Test.TheOpen.{Test-F}
use Rattle.sql_predicates.specs.declared.test.Test.TheFolds.{fold-Test}

module _ (values : List Value) where
  abbrev pub value_at : ℕ → Value
  value_at place = unwrap_or (slice_get values place) null

  abbrev pub operand_value : Operand → Value
  operand_value (operand.Column place) = value_at place
  operand_value (operand.Value constant) = constant_value constant

  abbrev pub layer_met : Test-F Truth → Truth
  layer_met (Test-F.Any ts) = any_of ts
  layer_met (Test-F.All ts) = all_of ts
  layer_met (Test-F.Not t) = negated t
  layer_met (Test-F.Compare a c b) = compared c (operand_value a) (operand_value b)
  layer_met (Test-F.IsNull place negative) = truth_of (if negative then not (is_null (value_at place)) else is_null (value_at place))

  unfoldable pub met : Test → Truth
  met = fold-Test Truth layer_met

  -- a row matches where there is no test, or its test is met
  abbrev pub passes_test : Option Test → Bool
  passes_test None = true
  passes_test (Some t) = holds (met t)

-- the rows of these values count
abbrev pub passes : Filter → List Value → Bool
passes f values = passes_test values f.test
