use Rattle.std.proofs.Common.{◌≡◌, ◌+◌, ◌-◌, ◌≤◌, ℕ, List, length, take, drop, sym, ◌∙◌, ap, arith, length-drop}
use Rattle.std.proofs.Math.Seq.{take-length}
use Rattle.std.proofs.lemmas.List.{take_all}
use Rattle.drda_words.specs.Place.{part}
use Rattle.drda_disk.specs.Disk.{overlaid}
use Rattle.drda_disk.proofs.Transfers.{MayTear-more, written_more, written_stays, written_all}
use Rattle.drda_disk.proofs.transfer.write_all.Goals as goal

pub returns-in-Ok-eq0-clause-tears : goal.returns-in-Ok-eq0-clause-tears
returns-in-Ok-eq0-clause-tears g c =
    MayTear-more c.args.at (length c.args.bytes.now) (c.args.at + c.loop-done.done) _ _ _ _ c.loop-done.invariant.tears c.write_some.ensures.tears (omega arith)
    (omega (arith, c.loop-done.invariant.low, length-drop c.loop-done.done c.args.bytes.now))

pub returns-in_err-left-in-Err-clause-tears : goal.returns-in_err-left-in-Err-clause-tears
returns-in_err-left-in-Err-clause-tears g c =
    MayTear-more c.args.at (length c.args.bytes.now) (c.args.at + c.loop-done.done) _ _ _ _ c.loop-done.invariant.tears c.write_some.ensures.tears (omega arith)
    (omega (arith, c.loop-done.invariant.low, length-drop c.loop-done.done c.args.bytes.now))

pub loop-done-preserved-in-Ok : goal.loop-done-preserved-in-Ok
loop-done-preserved-in-Ok g c =
    let rest : length (drop c.loop-done.done c.args.bytes.now) ≡ length c.args.bytes.now - c.loop-done.done = length-drop c.loop-done.done c.args.bytes.now in
    let all : take (length c.args.bytes.now - c.loop-done.done) (drop c.loop-done.done c.args.bytes.now) ≡ drop c.loop-done.done c.args.bytes.now = take_all (length c.args.bytes.now - c.loop-done.done) (drop c.loop-done.done c.args.bytes.now) (omega (arith, rest)) in
    let low : c.loop-done.done + c.in-Ok.more ≤ length c.args.bytes.now = omega (arith, c.loop-done.invariant.low, c.in-Ok.ensures.count, rest) in
    record {
      low = low;
      tears = MayTear-more c.args.at (length c.args.bytes.now) (c.args.at + c.loop-done.done) _ _ _ _ c.loop-done.invariant.tears c.write_some.ensures.tears (omega arith) (omega (arith, c.loop-done.invariant.low, rest));
      written = λ honest.
          written_more (g.F.PositionalFile.life c.loop-done.file).seen (g.F.PositionalFile.life c.write_some.new.self).seen c.args.bytes.now c.args.at c.loop-done.done c.in-Ok.more
          (c.loop-done.invariant.written honest) (c.in-Ok.ensures.written honest ∙ ap (λ (l : List ℕ). overlaid (g.F.PositionalFile.life c.loop-done.file).seen (c.args.at + c.loop-done.done) (take c.in-Ok.more l)) all) low (omega (arith, c.requires.inside, c.loop-done.invariant.tears.tears.others.size));
    }

pub loop-done-preserved : goal.loop-done-preserved
loop-done-preserved g c = record {
  low = c.loop-done.invariant.low;
  tears = MayTear-more c.args.at (length c.args.bytes.now) (c.args.at + c.loop-done.done) _ _ _ _ c.loop-done.invariant.tears c.write_some.ensures.tears (omega arith)
      (omega (arith, c.loop-done.invariant.low, length-drop c.loop-done.done c.args.bytes.now));
  written = λ honest.
      written_stays (g.F.PositionalFile.life c.loop-done.file).seen (g.F.PositionalFile.life c.write_some.new.self).seen c.args.bytes.now c.args.at c.loop-done.done _ (c.loop-done.invariant.written honest) c.write_some.ensures.tears.tears.others;
}

pub returns-clause-written : goal.returns-clause-written
returns-clause-written g c honest =
    let all : c.loop-done.done ≡ length c.args.bytes.now = omega (arith, c.loop-done.invariant.low, c.loop-done-test.false) in
    let now = (g.F.PositionalFile.life c.loop-done.file).seen in
    written_all (g.F.PositionalFile.life c.args.file.now).seen now c.args.bytes.now c.args.at c.loop-done.invariant.tears.tears.others
    (ap (λ n. part now c.args.at n) (sym all) ∙ c.loop-done.invariant.written honest ∙ ap (λ n. take n c.args.bytes.now) all ∙ take-length c.args.bytes.now)
