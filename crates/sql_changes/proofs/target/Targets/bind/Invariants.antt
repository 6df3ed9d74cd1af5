-- The assignments so far stand for targets.
use Rattle.std.proofs.Common.{length, map}
use Rattle.row_values.specs.Value.{value_of}
use Rattle.sql_changes.proofs.Binding.{SoFar}
use Rattle.sql_changes.proofs.target.Targets.bind.Given as goal

abbrev pub invariant-assignments : goal.invariant-assignments
invariant-assignments l = SoFar (map value_of l.params) l.schema.columns l.schema.key l.targets.items l.left l.assignments

abbrev pub decreases-assignments : goal.decreases-assignments
decreases-assignments l = length l.left
