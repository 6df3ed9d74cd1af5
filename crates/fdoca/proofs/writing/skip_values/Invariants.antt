-- The rest begins with the value at the place.
use Rattle.std.proofs.Common.{◌≡◌, ◌≤◌, List, drop, length, map, true}
use Rattle.row_values.specs.Value.{Value}
use Rattle.row_values.specs.Column.{column_of}
use Rattle.row_values.specs.Row.{all_fit, row_bytes}
use Rattle.fdoca.proofs.writing.skip_values.Given as goal

abbrev pub invariant-loop-j : goal.invariant-loop-j
invariant-loop-j l = record {
  there : (values : List Value) → all_fit (map column_of l.columns) values ≡ true → l.bytes ≡ row_bytes (drop l.from (map column_of l.columns)) (drop l.from values)
      → l.rest ≡ row_bytes (drop l.j (map column_of l.columns)) (drop l.j values);
  shorter : length l.rest ≤ length l.bytes;
}
