-- The rows from a place on are put.
use Rattle.std.proofs.Common.{◌≡◌, ◌≤◌, drop, length}
use Rattle.rdb_core.specs.Copied.{with_rows}
use Rattle.rdb_core.proofs.plain_tables.add_rows.Given as goal

abbrev pub invariant-loop-left : goal.invariant-loop-left
invariant-loop-left l = record {
  few : l.left ≤ length l.rows;
  made : l.view ≡ with_rows l.name (drop l.left l.rows) l.fn.view;
}

abbrev pub decreases-loop-left : goal.decreases-loop-left
decreases-loop-left l = l.left
