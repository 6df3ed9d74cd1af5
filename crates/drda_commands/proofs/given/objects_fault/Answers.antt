use Rattle.std.proofs.Common.{sym, ap, ◌∙◌}
use Rattle.std.specs.Option.{option_map}
use Rattle.ddm_objects.specs.Reading.{Walk}
use Rattle.drda_commands.specs.declared.refusal.SyntaxError.TheVariants.{InObject}
use Rattle.drda_commands.proofs.Walked.{ended, past_ok, stopped_err}
use Rattle.drda_commands.proofs.given.objects_fault.Goals as goal

pub loop-part-preserved : goal.loop-part-preserved
loop-part-preserved c =
    ap (λ (w : Walk). option_map InObject w.fault) (sym (past_ok c.loop-part.part-iterator c.next.new.self c.in-Some.part c.in-Some.ensures.steps c.in-Ok.field-0 c.in-Ok.is)) ∙ c.loop-part.invariant

pub returns-in-Err : goal.returns-in-Err
returns-in-Err c =
    ap (λ (w : Walk). option_map InObject w.fault) (sym (stopped_err c.loop-part.part-iterator c.next.new.self c.in-Some.part c.in-Some.ensures.steps c.in-Err.fault c.in-Err.is)) ∙ c.loop-part.invariant

pub returns : goal.returns
returns c = ap (λ (w : Walk). option_map InObject w.fault) (sym (ended c.loop-part.part-iterator c.next.new.self c.in-None.ensures.steps)) ∙ c.loop-part.invariant
