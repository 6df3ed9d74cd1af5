use Rattle.std.proofs.Common.{◌≡◌, ◌++◌, length, map}
use Rattle.row_values.specs.Value.{value_of}
use Rattle.sql_predicates.specs.Constant.{constant_value}
use Rattle.sql_changes.proofs.row.borrowed.Given as goal

abbrev pub invariant-constants : goal.invariant-constants
invariant-constants l = map value_of l.values.items ++ map constant_value l.left ≡ map constant_value l.constants

abbrev pub decreases-constants : goal.decreases-constants
decreases-constants l = length l.left
