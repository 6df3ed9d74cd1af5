-- All values fit exactly where those to come do.
use Rattle.std.proofs.Common.{◌≡◌, map, drop}
use Rattle.row_values.specs.Value.{value_of}
use Rattle.row_values.specs.Row.{all_fit}
use Rattle.row_values.proofs.row.are_row.Given as goal

abbrev pub invariant-loop-i : goal.invariant-loop-i
invariant-loop-i l = all_fit (drop l.i l.schema.columns) (drop l.i (map value_of l.values)) ≡ all_fit l.schema.columns (map value_of l.values)
