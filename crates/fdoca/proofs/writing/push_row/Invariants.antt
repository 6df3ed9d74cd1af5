-- What was there stands in front; the rest begins with the value at the next place; and what is there, with
-- the values still to be sent, is the row.
use Rattle.std.proofs.Common.{◌≡◌, ◌≤◌, ◌++◌, List, drop, length, map, take, true}
use Rattle.std.specs.Prelude.{vec_capacity}
use Rattle.row_values.specs.Value.{Value}
use Rattle.row_values.specs.Column.{column_of}
use Rattle.row_values.specs.Schema.{picked}
use Rattle.row_values.specs.Row.{all_fit, row_bytes}
use Rattle.fdoca.specs.Writing.{answer_row, sent_values}
use Rattle.fdoca.proofs.writing.push_row.Given as goal

abbrev pub invariant-loop-i : goal.invariant-loop-i
invariant-loop-i l = record {
  kept : take (length l.fn.out.items) l.out.items ≡ l.fn.out.items;
  longer : length l.fn.out.items ≤ length l.out.items;
  within : l.next ≤ length l.columns;
  walked : (values : List Value) → all_fit (map column_of l.columns) values ≡ true → l.row ≡ row_bytes (map column_of l.columns) values → l.rest ≡ row_bytes (drop l.next (map column_of l.columns)) (drop l.next values);
  sent : (values : List Value) → all_fit (map column_of l.columns) values ≡ true → l.row ≡ row_bytes (map column_of l.columns) values
      → l.out.items ++ sent_values (picked (map column_of l.columns) (drop l.i l.places)) (picked values (drop l.i l.places)) ≡ l.fn.out.items ++ answer_row (picked (map column_of l.columns) l.places) (picked values l.places);
  capacity : vec_capacity l.fn.out ≤ vec_capacity l.out;
}
