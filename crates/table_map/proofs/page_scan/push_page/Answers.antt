use Rattle.std.proofs.Common.{◌+◌, add-one}
use Rattle.table_map.proofs.Passed.{next_passes}
use Rattle.table_map.proofs.page_scan.push_page.Goals as goal

pub loop-i-preserved : goal.loop-i-preserved
loop-i-preserved g c =
    next_passes (g.K.RowKeys.key_of c.args.keys.now) c.args.page.now.rows c.loop-i.i (c.loop-i.i + 1) c.row.result.now c.args.changes.now c.loop-i.changes c.push_row.new.changes c.args.rows.now c.loop-i.rows c.push_row.new.rows c.row.ensures
    (add-one c.loop-i.i) c.loop-i.invariant c.in_ok-push_row.ensures
