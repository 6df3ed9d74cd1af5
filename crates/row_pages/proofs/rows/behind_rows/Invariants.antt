use Rattle.std.proofs.Common.{◌≡◌, ◌-◌}
use Rattle.row_pages.specs.Reading.{has_rows, behind_rows}
use Rattle.row_pages.proofs.rows.behind_rows.Given as goal

abbrev pub invariant-loop : goal.invariant-loop
invariant-loop l = record {
  has : has_rows l.fn.count l.fn.bytes ≡ has_rows (l.fn.count - l.counter) l.rest;
  behind : behind_rows l.fn.count l.fn.bytes ≡ behind_rows (l.fn.count - l.counter) l.rest;
}
