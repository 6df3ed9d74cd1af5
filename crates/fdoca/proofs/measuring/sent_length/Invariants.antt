-- The rest begins with the value at the next place; and what was counted, with the values still to come, is the row.
use Rattle.std.proofs.Common.{◌≡◌, ◌≤◌, ◌+◌, ◌*◌, List, drop, length, map, true}
use Rattle.row_values.specs.Value.{Value}
use Rattle.row_values.specs.Column.{column_of}
use Rattle.row_values.specs.Schema.{picked}
use Rattle.row_values.specs.Row.{all_fit, row_bytes}
use Rattle.fdoca.specs.Writing.{answer_row, sent_values}
use Rattle.fdoca.proofs.measuring.sent_length.Given as goal

abbrev pub invariant-loop-i : goal.invariant-loop-i
invariant-loop-i l = record {
  small : l.length ≤ 2 + 4000 * l.i;
  shorter : length l.rest ≤ length l.row;
  within : l.next ≤ length l.columns;
  walked : (values : List Value) → all_fit (map column_of l.columns) values ≡ true → l.row ≡ row_bytes (map column_of l.columns) values → l.rest ≡ row_bytes (drop l.next (map column_of l.columns)) (drop l.next values);
  counted : (values : List Value) → all_fit (map column_of l.columns) values ≡ true → l.row ≡ row_bytes (map column_of l.columns) values
      → l.length + length (sent_values (picked (map column_of l.columns) (drop l.i l.places)) (picked values (drop l.i l.places))) ≡ length (answer_row (picked (map column_of l.columns) l.places) (picked values l.places));
}
