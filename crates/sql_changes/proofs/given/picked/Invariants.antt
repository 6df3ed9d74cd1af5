use Rattle.std.proofs.Common.{◌≡◌, ◌++◌, length, map}
use Rattle.row_values.specs.Schema.{picked}
use Rattle.row_values.specs.Value.{value_of}
use Rattle.sql_predicates.specs.Constant.{constant_value}
use Rattle.sql_changes.proofs.given.picked.Given as goal

abbrev pub invariant-places : goal.invariant-places
invariant-places l = map value_of l.values.items ++ picked (map constant_value l.constants) l.left ≡ picked (map constant_value l.constants) l.places

abbrev pub decreases-places : goal.decreases-places
decreases-places l = length l.left
