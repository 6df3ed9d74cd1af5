-- One row more is put.
use Rattle.std.proofs.Common.{◌≡◌, ◌+◌, ◌-◌, arith}
use Rattle.rdb_core.proofs.Copying.{rows_next}
use Rattle.rdb_core.proofs.plain_tables.add_rows.Goals as goal

pub loop-left-preserved : goal.loop-left-preserved
loop-left-preserved c =
    let one : c.loop-left.left ≡ (c.loop-left.left - 1) + 1 = omega (arith, c.loop-left-test.true) in
    record {
      few = omega (arith, c.loop-left.invariant.few);
      made = rows_next c.args.name.now c.row.result.now c.args.rows.now (c.loop-left.left - 1) c.loop-left.left c.loop-left.view c.add_row.new.view c.args.view.now c.row.ensures one c.loop-left.invariant.made c.in_ok-add_row.ensures;
    }
