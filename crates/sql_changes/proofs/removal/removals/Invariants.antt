use Rattle.std.proofs.Common.{◌≡◌, map, take}
use Rattle.row_values.specs.Key.{row_key}
use Rattle.tables.specs.Change.{remove}
use Rattle.tables.specs.ChangeView.{change_of}
use Rattle.sql_changes.proofs.removal.removals.Given as goal

abbrev pub invariant-loop-i : goal.invariant-loop-i
invariant-loop-i l = map change_of l.changes.items ≡ map (λ row. remove l.table (row_key l.rows.schema row)) (take l.i l.rows.rows)
