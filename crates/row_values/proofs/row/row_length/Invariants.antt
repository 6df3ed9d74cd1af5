-- The length so far, and that of the values to come, are the row's.
use Rattle.std.proofs.Common.{◌≡◌, ◌+◌, ◌≤◌, map, drop, length}
use Rattle.row_values.specs.Value.{value_of}
use Rattle.row_values.specs.Column.{column_of}
use Rattle.row_values.specs.Row.{row_bytes}
use Rattle.row_values.proofs.row.row_length.Given as goal

abbrev pub invariant-loop-i : goal.invariant-loop-i
invariant-loop-i l = record {
  short : l.length ≤ 4000;
  whole : l.length + length (row_bytes (drop l.i (map column_of l.columns)) (drop l.i (map value_of l.values))) ≡ length (row_bytes (map column_of l.columns) (map value_of l.values));
}
