use Rattle.std.proofs.Common.{sym, ap, ◌∙◌, Option}
use Rattle.std.specs.Option.{option_map}
use Rattle.ddm_objects.specs.Objects.{Obj}
use Rattle.ddm_objects.specs.Reading.{Walk}
use Rattle.drda_commands.specs.declared.refusal.SyntaxError.{SyntaxError}
use Rattle.drda_commands.specs.declared.refusal.SyntaxError.TheVariants.{InObject}
use Rattle.drda_commands.specs.Given.{fault_among, fault_inside}
use Rattle.drda_commands.proofs.Walked.{ended, stopped_err}
use Rattle.drda_commands.proofs.Faults.{no_fault_inside, fault_is_there}
use Rattle.drda_commands.proofs.given.fault_in.Goals as goal

pub loop-part-preserved : goal.loop-part-preserved
loop-part-preserved c =
    let judge : Obj → Option SyntaxError = fault_inside c.args.items.now c.args.kind in
    no_fault_inside judge c.loop-part.part-iterator c.next.new.self c.in-Some.part c.in-Some.ensures.steps c.in-Ok.object c.in-Ok.is c.fault_inside-inside.result c.fault_inside-inside.ensures (sym c.is_some.ensures ∙ c.if-is_some.false)
    ∙ c.loop-part.invariant

pub returns-then-is_some : goal.returns-then-is_some
returns-then-is_some c =
    let judge : Obj → Option SyntaxError = fault_inside c.args.items.now c.args.kind in
    fault_is_there judge c.loop-part.part-iterator c.next.new.self c.in-Some.part c.in-Some.ensures.steps c.in-Ok.object c.in-Ok.is c.fault_inside-inside.result c.fault_inside-inside.ensures (sym c.is_some.ensures ∙ c.if-is_some.true)
    ∙ c.loop-part.invariant

pub returns-in-Err : goal.returns-in-Err
returns-in-Err c =
    let judge : Obj → Option SyntaxError = fault_inside c.args.items.now c.args.kind in
    ap (λ (w : Walk). fault_among judge w.objects (option_map InObject w.fault)) (sym (stopped_err c.loop-part.part-iterator c.next.new.self c.in-Some.part c.in-Some.ensures.steps c.in-Err.fault c.in-Err.is)) ∙ c.loop-part.invariant

pub returns : goal.returns
returns c =
    let judge : Obj → Option SyntaxError = fault_inside c.args.items.now c.args.kind in
    ap (λ (w : Walk). fault_among judge w.objects (option_map InObject w.fault)) (sym (ended c.loop-part.part-iterator c.next.new.self c.in-None.ensures.steps)) ∙ c.loop-part.invariant
