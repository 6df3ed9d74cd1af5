-- The columns so far, before those that stand in the rest, are those of the bytes.
use Rattle.std.proofs.Common.{◌≡◌, ◌-◌, map}
use Rattle.row_values.specs.Column.{column_of}
use Rattle.row_values.specs.Bytes.{columns_at}
use Rattle.row_values.proofs.ByteSteps.{before}
use Rattle.row_values.proofs.schema_bytes.read_columns.Given as goal

abbrev pub invariant-loop : goal.invariant-loop
invariant-loop l = before (map column_of l.columns.items) (columns_at (l.count - l.counter) l.rest) ≡ columns_at l.count l.bytes
