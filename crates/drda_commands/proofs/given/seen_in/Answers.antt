use Rattle.std.proofs.Common.{sym, ap, ◌∙◌}
use Rattle.ddm_objects.specs.Reading.{Walk, walk}
use Rattle.ddm_objects.specs.Source.{rest_of}
use Rattle.drda_commands.specs.Given.{Occurs, seen_in}
use Rattle.drda_commands.specs.Views.{occurs_of}
use Rattle.drda_commands.proofs.Walked.{ended, past_ok, stopped_err}
use Rattle.drda_commands.proofs.given.seen_in.Goals as goal

pub loop-part-preserved : goal.loop-part-preserved
loop-part-preserved c =
    ap (λ (s : Occurs). seen_in c.args.code s (walk (rest_of c.next.new.self)).objects) c.seen_with-seen.ensures
    ∙ ap (λ (w : Walk). seen_in c.args.code (occurs_of c.loop-part.seen) w.objects) (sym (past_ok c.loop-part.part-iterator c.next.new.self c.in-Some.part c.in-Some.ensures.steps c.in-Ok.object c.in-Ok.is)) ∙ c.loop-part.invariant

pub returns-in-Err : goal.returns-in-Err
returns-in-Err c =
    ap (λ (w : Walk). seen_in c.args.code (occurs_of c.loop-part.seen) w.objects) (sym (stopped_err c.loop-part.part-iterator c.next.new.self c.in-Some.part c.in-Some.ensures.steps c.in-Err.field-0 c.in-Err.is)) ∙ c.loop-part.invariant

pub returns : goal.returns
returns c = ap (λ (w : Walk). seen_in c.args.code (occurs_of c.loop-part.seen) w.objects) (sym (ended c.loop-part.part-iterator c.next.new.self c.in-None.ensures.steps)) ∙ c.loop-part.invariant
