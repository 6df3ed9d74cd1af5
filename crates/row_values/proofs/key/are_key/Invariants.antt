-- All values fit exactly where those to come do.
use Rattle.std.proofs.Common.{◌≡◌, map, drop}
use Rattle.row_values.specs.Value.{value_of}
use Rattle.row_values.specs.Schema.{key_columns}
use Rattle.row_values.specs.Row.{all_fit}
use Rattle.row_values.proofs.key.are_key.Given as goal

abbrev pub invariant-loop-i : goal.invariant-loop-i
invariant-loop-i l = all_fit (drop l.i (key_columns l.schema)) (drop l.i (map value_of l.values)) ≡ all_fit (key_columns l.schema) (map value_of l.values)
