use Rattle.std.proofs.Common.{map, rules}
use Rattle.row_values.specs.RowView.{row_in, schema_in}
use Rattle.tables.specs.ChangeView.{change_of}
use Rattle.sql_changes.proofs.Rows.{one_more, row_refused}
use Rattle.sql_changes.proofs.change.puts.Goals as goal

pub returns-in_err-change : goal.returns-in_err-change
returns-in_err-change c =
    row_refused _ (λ changes. map change_of changes.items) _ c.args.targets.now c.args.table.now c.args.rows.now.schema (schema_in c.row.result) c.args.rows.now.rows c.loop-i.i (row_in c.row.result) c.loop-i.changes.items c.in_err-change.field-0.0
    c.row.ensures.0 c.row.ensures.1 (search rules) c.in_err-change.ensures c.loop-i.invariant

pub loop-i-preserved : goal.loop-i-preserved
loop-i-preserved c =
    one_more c.args.targets.now c.args.table.now c.args.rows.now.schema (schema_in c.row.result) c.args.rows.now.rows c.loop-i.i (row_in c.row.result) c.loop-i.changes.items c.push.new.self.items c.in_ok-change.change
    c.row.ensures.0 c.row.ensures.1 c.in_ok-push.ensures.items c.in_ok-change.ensures c.loop-i.invariant
