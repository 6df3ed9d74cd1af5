-- The rows so far stand before the place of the key.
use Rattle.std.specs.Ordering.{is_gt}
use Rattle.row_values.specs.Key.{key_cmp}
use Rattle.tables.proofs.Places.{CountsOn}
use Rattle.tables.proofs.plain_table.place_for.Given as goal

abbrev pub invariant-loop-i : goal.invariant-loop-i
invariant-loop-i l = CountsOn (λ r. is_gt (key_cmp l.schema l.key r.key.items)) l.rows l.i
