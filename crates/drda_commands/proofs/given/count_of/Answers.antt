use Rattle.std.proofs.Common.{sym, ap, ◌∙◌, ◌+◌, ◌-◌, ◌^◌, min, length, arith}
use Rattle.ddm_objects.specs.Reading.{Walk, walk}
use Rattle.ddm_objects.specs.Source.{rest_of}
use Rattle.drda_commands.proofs.Walked.{ended, past_ok, stopped_err}
use Rattle.drda_commands.proofs.Counting.{counts_one}
use Rattle.drda_commands.proofs.given.count_of.Goals as goal

pub loop-part-preserved : goal.loop-part-preserved
loop-part-preserved c = record {
  same = counts_one c.loop-part.count c.saturating_add-count.result (length (walk (rest_of c.next.new.self)).objects) (2 ^ 64 - 1) c.saturating_add-count.ensures
      ∙ ap (λ (w : Walk). min (c.loop-part.count + length w.objects) (2 ^ 64 - 1)) (sym (past_ok c.loop-part.part-iterator c.next.new.self c.in-Some.part c.in-Some.ensures.steps c.in-Ok.field-0 c.in-Ok.is))
      ∙ c.loop-part.invariant.same;
  within = c.saturating_add-count.type_inv;
}

pub returns-in-Err : goal.returns-in-Err
returns-in-Err c =
    let e = ap (λ (w : Walk). length w.objects) (stopped_err c.loop-part.part-iterator c.next.new.self c.in-Some.part c.in-Some.ensures.steps c.in-Err.field-0 c.in-Err.is) in
    omega (arith, e, c.loop-part.invariant.same, c.loop-part.invariant.within)

pub returns : goal.returns
returns c =
    let e = ap (λ (w : Walk). length w.objects) (ended c.loop-part.part-iterator c.next.new.self c.in-None.ensures.steps) in
    omega (arith, e, c.loop-part.invariant.same, c.loop-part.invariant.within)
