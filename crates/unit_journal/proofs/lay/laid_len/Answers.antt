use Rattle.std.proofs.Common.{◌≡◌, length, arith, rules}
use Rattle.unit_journal.proofs.Laying.{length_next}
use Rattle.unit_journal.proofs.lay.laid_len.Goals as goal

pub loop-item-preserved : goal.loop-item-preserved
loop-item-preserved c =
    let more = length_next c.args.records.now c.loop-item.item-index c.item-item.result c.loop-item-test.true c.item-item.is in
    let len : c.len.result ≡ length c.item-item.result.body.items = search rules in
    omega (arith, more, len, c.loop-item.invariant, c.saturating_add.ensures, c.saturating_add-sum.ensures)
