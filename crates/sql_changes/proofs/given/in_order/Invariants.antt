use Rattle.std.proofs.Common.{◌≡◌, ◌++◌, length, map}
use Rattle.row_values.specs.Value.{value_of}
use Rattle.sql_semantics.specs.Values.{literal_value}
use Rattle.sql_predicates.specs.Constant.{constant_value}
use Rattle.sql_changes.proofs.given.in_order.Given as goal

abbrev pub invariant-literals : goal.invariant-literals
invariant-literals l =
    map constant_value l.row.items ++ map (literal_value (map value_of l.params)) l.left ≡ map (literal_value (map value_of l.params)) l.literals

abbrev pub decreases-literals : goal.decreases-literals
decreases-literals l = length l.left
