use Rattle.std.proofs.Common.{◌≡◌, length, map, replicate, None}
use Rattle.drda_node.specs.Sharing.{AllServe}
use Rattle.drda_node.specs.Register.{shown}
use Rattle.drda_node.proofs.row.free_places.Given as goal

abbrev pub invariant-loop : goal.invariant-loop
invariant-loop l = record {
  count : length l.places.items ≡ l.counter;
  alike : AllServe l.fn.settings l.places.items;
  free : map shown l.places.items ≡ replicate l.counter None;
}
