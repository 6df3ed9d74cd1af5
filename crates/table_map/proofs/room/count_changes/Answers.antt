use Rattle.std.proofs.Common.{List, ℕ, length, ap, arith}
use Rattle.table_map.specs.Room.{bytes_of}
use Rattle.table_map.proofs.room.count_changes.Goals as goal

pub returns-clause-count : goal.returns-clause-count
returns-clause-count c = omega (arith, c.loop-row.invariant.all, c.loop-row.invariant.small, ap (λ (l : List (List ℕ × List ℕ)). length l) c.in_default.ensures.steps.0)

pub returns-clause-bytes : goal.returns-clause-bytes
returns-clause-bytes c = omega (arith, c.loop-row.invariant.bytes, c.loop-row.invariant.few, ap bytes_of c.in_default.ensures.steps.0)
