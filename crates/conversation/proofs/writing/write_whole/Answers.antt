use Rattle.std.proofs.Common.{arith, length-drop}
use Rattle.std.proofs.lemmas.List.{take_rest}
use Rattle.conversation.proofs.Written.{wrote_more}
use Rattle.conversation.proofs.writing.write_whole.Goals as goal

pub writing-preserved : goal.writing-preserved
writing-preserved g c = record {
  within = omega (arith, c.in_ok-count.ensures.bound, length-drop c.writing.at c.args.bytes.now);
  wrote = wrote_more (g.W.Write.contents c.args.writer.now) (g.W.Write.contents c.writing.writer) (g.W.Write.contents c.write.new.self) c.args.bytes.now c.writing.at c.in_ok-count.count c.writing.invariant.wrote (rw take_rest at c.in_ok-count.ensures.bytes);
}
