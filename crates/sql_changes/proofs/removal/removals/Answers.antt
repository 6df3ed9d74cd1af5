use Rattle.std.proofs.Common.{ap, ◌∙◌}
use Rattle.row_values.specs.Key.{row_key}
use Rattle.row_values.specs.RowView.{row_in}
use Rattle.tables.specs.Change.{remove}
use Rattle.tables.specs.ChangeView.{change_of}
use Rattle.sql_changes.proofs.Gathered.{gathered}
use Rattle.sql_changes.proofs.removal.removals.Goals as goal

pub loop-i-preserved : goal.loop-i-preserved
loop-i-preserved c =
    gathered change_of (λ row. remove c.args.table.now (row_key c.args.rows.now.schema row)) c.loop-i.changes.items _ c.args.rows.now.rows c.loop-i.i c.in_ok-change.change (row_in c.row.result)
    c.in_ok-push.ensures.items (c.in_ok-change.ensures ∙ ap (λ s. remove c.args.table.now (row_key s (row_in c.row.result))) c.row.ensures.0) c.row.ensures.1 c.loop-i.invariant
