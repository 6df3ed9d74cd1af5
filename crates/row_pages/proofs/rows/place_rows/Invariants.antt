-- The rows that are left are those behind the place, and their places follow those that are known.
use Rattle.std.proofs.Common.{◌≡◌, ◌≤◌, ◌++◌, ◌-◌, length, drop}
use Rattle.std.specs.Prelude.{vec_capacity}
use Rattle.row_pages.specs.Reading.{has_rows, behind_rows, row_starts}
use Rattle.row_pages.proofs.rows.place_rows.Given as goal

abbrev pub invariant-loop : goal.invariant-loop
invariant-loop l = record {
  has : has_rows l.fn.count (drop 3 l.bytes) ≡ has_rows (l.fn.count - l.counter) (drop l.at l.bytes);
  behind : behind_rows l.fn.count (drop 3 l.bytes) ≡ behind_rows (l.fn.count - l.counter) (drop l.at l.bytes);
  starts : l.starts.items ++ row_starts l.at (l.fn.count - l.counter) l.bytes ≡ row_starts 3 l.fn.count l.bytes;
  size : length l.starts.items ≡ l.counter;
  within : l.at ≤ length l.bytes;
  room : l.fn.count ≤ vec_capacity l.starts;
}
