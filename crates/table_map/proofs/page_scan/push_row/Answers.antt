use Rattle.std.proofs.Common.{sym}
use Rattle.std.proofs.lemmas.Result.{on_ok_weaker}
use Rattle.table_map.proofs.Passed.{before_passes, here_passes, row_passes}
use Rattle.table_map.proofs.page_scan.push_row.Goals as goal

pub loop-rows-preserved : goal.loop-rows-preserved
loop-rows-preserved g c = λ last end next.
    c.loop-rows.invariant last end
    (before_passes (g.K.RowKeys.key_of c.args.keys.now) c.changes_and_rows_in_turn.ensures.change c.args.row.now c.loop-rows.changes c.take.new.self last c.take.result c.loop-rows.rows c.push_change.new.rows end c.take.ensures (sym c.in-Less.ensures)
    c.in_ok-push_change-in-Less.ensures next)

pub returns-in-Equal : goal.returns-in-Equal
returns-in-Equal g c =
    on_ok_weaker c.push_change-in-Equal.result
    (λ put. c.loop-rows.invariant c.take-in-Equal.new.self c.push_change-in-Equal.new.rows
    (here_passes (g.K.RowKeys.key_of c.args.keys.now) c.changes_and_rows_in_turn.ensures.both c.args.row.now c.loop-rows.changes c.take-in-Equal.new.self c.take-in-Equal.result c.loop-rows.rows c.push_change-in-Equal.new.rows c.take-in-Equal.ensures
    (sym c.in-Equal.ensures) put))
    c.push_change-in-Equal.ensures

pub returns-in-Greater : goal.returns-in-Greater
returns-in-Greater g c =
    on_ok_weaker c.push.result
    (λ put. c.loop-rows.invariant c.loop-rows.changes c.push.new.self
    (row_passes (g.K.RowKeys.key_of c.args.keys.now) c.changes_and_rows_in_turn.ensures.row c.args.row.now c.loop-rows.changes c.loop-rows.rows c.push.new.self (sym c.in-Greater.ensures) put))
    c.push.ensures.ok
