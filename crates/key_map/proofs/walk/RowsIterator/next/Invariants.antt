use Rattle.std.proofs.Common.{◌≡◌, length, ◌≤◌}
use Rattle.key_map.specs.Walk.{rows_left}
use Rattle.key_map.proofs.walk.RowsIterator.next.Given as goal

abbrev pub invariant-loop-key : goal.invariant-loop-key
invariant-loop-key l = record {
  rows : rows_left l.self ≡ rows_left l.fn.self;
  fewer : length l.self.slots ≤ length l.fn.self.slots;
}

abbrev pub decreases-loop-key : goal.decreases-loop-key
decreases-loop-key l = length l.self.slots
