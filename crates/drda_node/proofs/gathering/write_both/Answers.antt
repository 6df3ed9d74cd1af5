use Rattle.std.proofs.Common.{◌+◌, ℕ, List, length, subst}
use Rattle.std.specs.Io.KnownBytes.{Appends}
use Rattle.counted_streams.specs.Counts.{sink_of}
use Rattle.drda_node.proofs.Written.{appends_front}
use Rattle.drda_node.proofs.gathering.write_both.Goals as goal

pub returns-in_default-write_whole-clause-err : goal.returns-in_default-write_whole-clause-err
returns-in_default-write_whole-clause-err g c =
    let w = g.W.Write.contents (sink_of c.args.writer.now) in
    let w1 = g.W.Write.contents (sink_of c.write_whole.new.self) in
    let w2 = g.W.Write.contents (sink_of c.write_whole-2.new.self) in
    let wrote = c.in_default-write_whole.ensures.err in
    (length c.args.gathered.now.items + wrote.0, appends_front w w1 w2 c.args.gathered.now.items c.args.answer.now wrote.0 (subst (λ (z : List ℕ). Appends w w1 z) c.deref.ensures.value c.in-Ok.ensures.ok) wrote.1)
