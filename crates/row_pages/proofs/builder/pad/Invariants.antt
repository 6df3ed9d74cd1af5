use Rattle.std.proofs.Common.{◌≡◌, ◌≤◌, ◌++◌, ◌-◌, length, replicate}
use Rattle.std.specs.Prelude.{vec_capacity}
use Rattle.row_pages.proofs.builder.pad.Given as goal

abbrev pub invariant-loop : goal.invariant-loop
invariant-loop l = record {
  items : l.bytes.items ≡ l.fn.bytes.items ++ replicate (l.counter - length l.fn.bytes.items) 0;
  least : length l.fn.bytes.items ≤ l.counter;
  room : l.to ≤ vec_capacity l.bytes;
}
