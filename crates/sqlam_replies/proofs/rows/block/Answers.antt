use Rattle.std.proofs.Common.{◌<◌, arith, length}
use Rattle.sqlam_replies.proofs.Blocks.{fits_on, stops}
use Rattle.sqlam_replies.proofs.rows.block.Goals as goal

pub loop-i-preserved : goal.loop-i-preserved
loop-i-preserved c =
    let lt : c.loop-i.i < length c.args.rows.now.rows = omega (arith, c.loop-i-test.true, c.len-i-end.ensures) in
    fits_on c.args.rows.now c.args.from c.args.size c.loop-i.i c.loop-i.room c.row_length-length.result lt c.row_length-length.ensures c.if-length-room.false c.loop-i.invariant

pub returns-then-length-room : goal.returns-then-length-room
returns-then-length-room c =
    let lt : c.loop-i.i < length c.args.rows.now.rows = omega (arith, c.loop-i-test.true, c.len-i-end.ensures) in
    stops c.args.rows.now c.args.from c.args.size c.loop-i.i c.loop-i.room c.row_length-length.result c.at_least_one.result lt c.row_length-length.ensures c.if-length-room.true c.loop-i.invariant c.at_least_one.ensures.some c.at_least_one.ensures.least c.at_least_one.ensures.either
