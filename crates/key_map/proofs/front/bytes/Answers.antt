use Rattle.key_map.specs.declared.front.Front.TheVariants.{Before, Behind, Same}
use Rattle.key_map.proofs.Joined.{all_there, byte_before, byte_behind}
use Rattle.key_map.proofs.front.bytes.Goals as goal

pub returns-in-Before : goal.returns-in-Before
returns-in-Before c = c.loop-next.invariant Before (byte_before c.loop-next.rest.now c.args.piece.now c.loop-next.next-index c.loop-next-test.true c.in-Before.ensures)

pub returns-in-Behind : goal.returns-in-Behind
returns-in-Behind c = c.loop-next.invariant Behind (byte_behind c.loop-next.rest.now c.args.piece.now c.loop-next.next-index c.loop-next-test.true c.in-Behind.ensures)

pub returns : goal.returns
returns c = c.loop-next.invariant (Same c.loop-next.rest) (all_there c.args.piece.now c.loop-next.next-index c.loop-next-test.false c.loop-next.rest.now)
