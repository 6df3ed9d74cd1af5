use Rattle.std.proofs.Common.{rules, ◌+◌, ℕ, List, Option, take, drop, sym, subst, arith, length-drop}
use Rattle.std.proofs.lemmas.List.{take_rest}
use Rattle.std.specs.Io.KnownBytes.{Appends}
use Rattle.std.proofs.KnownBytes.{Appends-trans}
use Rattle.std.proofs.Math.Seq.{take-add}
use Rattle.counted_streams.specs.Counts.{sink_of}
use Rattle.counted_streams.proofs.writer.Writer.write_whole.Goals as goal

-- bytes that were written, one piece after the other
wrote_more : (u v w : Option (List ℕ)) (bytes : List ℕ) (a n : ℕ) → Appends u v (take a bytes) → Appends v w (take n (drop a bytes)) → Appends u w (take (a + n) bytes)
wrote_more u v w bytes a n p q = subst (λ (z : List ℕ). Appends u w z) (sym (take-add a n bytes)) (Appends-trans u v w (take a bytes) (take n (drop a bytes)) p q)

pub writing-preserved : goal.writing-preserved
writing-preserved g c =
    let contents = g.W.Write.contents in
    record {
      within = omega (arith, c.in_ok-at.ensures.bound, length-drop c.writing.at c.args.bytes.now);
      wrote = wrote_more (contents (sink_of c.args.self.now)) (contents (sink_of c.writing.self)) (contents (sink_of c.write_some.new.self)) c.args.bytes.now c.writing.at c.in_ok-at.field-0 c.writing.invariant.wrote (rw take_rest at c.in_ok-at.ensures.bytes);
      faults = search rules;
    }
