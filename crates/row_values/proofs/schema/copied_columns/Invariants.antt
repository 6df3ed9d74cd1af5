-- The columns so far are copied.
use Rattle.std.proofs.Common.{◌≡◌, map, take}
use Rattle.row_values.specs.Column.{column_of}
use Rattle.row_values.proofs.schema.copied_columns.Given as goal

abbrev pub invariant-loop-i : goal.invariant-loop-i
invariant-loop-i l = map column_of l.copies.items ≡ map column_of (take l.i l.columns)
