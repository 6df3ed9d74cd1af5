use Rattle.std.proofs.Common.{◌≡◌, ◌+◌, ◌<◌, ◌^◌, length}
use Rattle.row_pages.specs.Laying.{counted}
use Rattle.key_map.specs.Walk.{rows_left}
use Rattle.table_map.specs.Room.{bytes_of}
use Rattle.table_map.proofs.room.count_changes.Given as goal

abbrev pub invariant-loop-row : goal.invariant-loop-row
invariant-loop-row l = record {
  all : counted (l.counts.count + length (rows_left l.left)) ≡ counted (length (rows_left l.fn.changes));
  bytes : counted (l.counts.bytes + bytes_of (rows_left l.left)) ≡ counted (bytes_of (rows_left l.fn.changes));
  small : l.counts.count < 2 ^ 64;
  few : l.counts.bytes < 2 ^ 64;
}
