-- The rows so far are copied.
use Rattle.std.proofs.Common.{◌≡◌, map, take}
use Rattle.tables.proofs.plain_table.copied_rows.Given as goal

abbrev pub invariant-loop-i : goal.invariant-loop-i
invariant-loop-i l = l.copies ≡ map (λ r. r.row.items) (take l.i l.rows)
