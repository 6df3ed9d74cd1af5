-- The columns of at most 128 parameters can be described.
use Rattle.std.proofs.Common.{◌≤◌, ◌∙◌, List, ap, length, map, subst, sym}
use Rattle.row_values.specs.Column.{column_of}
use Rattle.core_calls.specs.declared.described.ParameterType.{ParameterType}
use Rattle.sqlam_replies.specs.Sqldard.{are_described}
use Rattle.sql_commands.proofs.Described.{parameters_described}
use Rattle.sql_commands.proofs.describing.describe_statement.Goals as goal

pub add-requires-in-Input-clause-can : goal.add-requires-in-Input-clause-can
add-requires-in-Input-clause-can g c =
    let few : length c.as_slice.result.now ≤ 128 = subst (λ (ts : List ParameterType). length ts ≤ 128) (sym c.as_slice.ensures.types) c.as_slice.ensures.limit in
    ap are_described (ap (map column_of) c.deref.ensures.value ∙ c.parameter_columns-columns.ensures) ∙ parameters_described c.as_slice.result.now few
