-- The length so far, and that of the values to come, are the key's.
use Rattle.std.proofs.Common.{◌≡◌, ◌+◌, map, drop, length}
use Rattle.row_values.specs.Value.{value_of}
use Rattle.row_values.specs.Schema.{key_columns}
use Rattle.row_values.specs.Row.{row_bytes}
use Rattle.row_values.proofs.key.key_length.Given as goal

abbrev pub invariant-loop-i : goal.invariant-loop-i
invariant-loop-i l =
    l.length + length (row_bytes (drop l.i (key_columns l.schema)) (drop l.i (map value_of l.values))) ≡ length (row_bytes (key_columns l.schema) (map value_of l.values))
