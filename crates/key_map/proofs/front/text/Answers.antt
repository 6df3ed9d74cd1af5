use Rattle.key_map.specs.declared.front.Front.TheVariants.{Before, Behind}
use Rattle.key_map.proofs.Joined.{text_before, text_behind}
use Rattle.key_map.proofs.front.text.Goals as goal

pub returns-in-Before : goal.returns-in-Before
returns-in-Before c = c.loop-next.invariant Before (text_before c.loop-next.rest.now c.args.text.now c.loop-next.next-index c.loop-next-test.true c.in-Before.ensures)

pub returns-in-Behind : goal.returns-in-Behind
returns-in-Behind c = c.loop-next.invariant Behind (text_behind c.loop-next.rest.now c.args.text.now c.loop-next.next-index c.loop-next-test.true c.in-Behind.ensures)
