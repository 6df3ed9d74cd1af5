-- The bytes so far, with those of the columns to come, are those of all columns; what was there stays.
use Rattle.std.proofs.Common.{◌≡◌, ◌++◌, map, drop}
use Rattle.std.specs.List.{flat_map}
use Rattle.row_values.specs.Column.{column_of}
use Rattle.row_values.specs.Bytes.{Keeps, column_bytes}
use Rattle.row_values.proofs.schema_bytes.put_columns.Given as goal

abbrev pub invariant-loop-column : goal.invariant-loop-column
invariant-loop-column l = record {
  bytes : l.out.items ++ flat_map column_bytes (drop l.column-index (map column_of l.columns)) ≡ l.initial.out.items ++ flat_map column_bytes (map column_of l.columns);
  kept : Keeps l.initial.out.items l.out.items;
}
