-- The length so far, with that of the columns to come, is that of all columns.
use Rattle.std.proofs.Common.{◌≡◌, ◌≤◌, ◌+◌, ◌*◌, map, drop, length}
use Rattle.std.specs.List.{flat_map}
use Rattle.row_values.specs.Column.{column_of}
use Rattle.row_values.specs.Bytes.{column_bytes}
use Rattle.row_values.proofs.schema_bytes.columns_length.Given as goal

abbrev pub invariant-loop-column : goal.invariant-loop-column
invariant-loop-column l = record {
  short : l.length ≤ l.column-index * 35;
  whole : l.length + length (flat_map column_bytes (drop l.column-index (map column_of l.columns))) ≡ length (flat_map column_bytes (map column_of l.columns));
}
