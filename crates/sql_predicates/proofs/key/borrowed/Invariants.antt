use Rattle.std.proofs.Common.{◌≡◌, map, take}
use Rattle.row_values.specs.Value.{value_of}
use Rattle.sql_predicates.specs.Constant.{constant_value}
use Rattle.sql_predicates.proofs.key.borrowed.Given as goal

abbrev pub invariant-loop-constant : goal.invariant-loop-constant
invariant-loop-constant l = map value_of l.values.items ≡ map constant_value (take l.constant-index l.constants)
