use Rattle.std.proofs.Common.{rules, ◌≡◌, drop, arith, sym, ap, ◌∙◌, Ok, Some}
use Rattle.std.proofs.lemmas.List.{take_rest}
use Rattle.dss_frames.specs.Judging.{judged}
use Rattle.dss_frames.proofs.Steps.{place_fault, place_beyond, place_found, place_next}
use Rattle.dss_frames.proofs.looking.look.Goals as goal

pub returns-in-Err : goal.returns-in-Err
returns-in-Err c = place_fault c.args.bytes.now c.judging.place c.in-Err.fault c.judging.invariant c.judging-test.true (sym (rw take_rest at c.in-Err.ensures))

pub returns-in-Ok-None : goal.returns-in-Ok-None
returns-in-Ok-None c =
    rw c.found.ensures (place_found c.args.bytes.now c.judging.place c.judging.invariant c.judging-test.true (sym (rw take_rest at c.judge.ensures) ∙ c.in-Ok-None.is ∙ ap Ok c.in-Ok-None.field-0-is))

pub overflow_add-place : goal.overflow_add-place
overflow_add-place c =
    let e : judged c.judging.place.expected (drop c.judging.place.at c.args.bytes.now) ≡ Ok (Some (c.in-Ok-Some.expected, c.in-Ok-Some.size)) = sym (rw take_rest at c.judge.ensures) ∙ c.in-Ok-Some.is ∙ ap Ok c.in-Ok-Some.field-0-is in
    let n = place_next c.args.bytes.now c.judging.place c.in-Ok-Some.expected c.in-Ok-Some.size c.judging.invariant c.judging-test.true e in
    search (rules, n.2)

pub judging-smaller : goal.judging-smaller
judging-smaller c =
    let e : judged c.judging.place.expected (drop c.judging.place.at c.args.bytes.now) ≡ Ok (Some (c.in-Ok-Some.expected, c.in-Ok-Some.size)) = sym (rw take_rest at c.judge.ensures) ∙ c.in-Ok-Some.is ∙ ap Ok c.in-Ok-Some.field-0-is in
    let n = place_next c.args.bytes.now c.judging.place c.in-Ok-Some.expected c.in-Ok-Some.size c.judging.invariant c.judging-test.true e in
    omega (arith, n.0, c.judging-test.true)

pub judging-preserved : goal.judging-preserved
judging-preserved c =
    let e : judged c.judging.place.expected (drop c.judging.place.at c.args.bytes.now) ≡ Ok (Some (c.in-Ok-Some.expected, c.in-Ok-Some.size)) = sym (rw take_rest at c.judge.ensures) ∙ c.in-Ok-Some.is ∙ ap Ok c.in-Ok-Some.field-0-is in
    (place_next c.args.bytes.now c.judging.place c.in-Ok-Some.expected c.in-Ok-Some.size c.judging.invariant c.judging-test.true e).2

pub returns : goal.returns
returns c = place_beyond c.args.bytes.now c.judging.place c.judging.invariant c.judging-test.false
