use Rattle.std.proofs.Common.{ap}
use Rattle.core_calls.specs.Answer.{answer_of}
use Rattle.core_calls.specs.Call.{call_of}
use Rattle.core_history.proofs.Leading.{again}
use Rattle.core_history.proofs.asking.ask.Goals as goal

pub returns-in-Full-clause-answered : goal.returns-in-Full-clause-answered
returns-in-Full-clause-answered g c =
    again g.D.Disk.is_modelled g.D.Disk.life c.answers_belong_to_calls.ensures.belong c.answers_belong_to_calls.ensures.excuses c.args.core.now c.step.new.self c.renew.new.core c.step-in-Full.new.self c.args.conversation (call_of c.args.call.now) (answer_of c.step.result)
    (answer_of c.step-in-Full.result) c.in-Full.need c.in-Full.room (ap answer_of c.in-Full.is) c.step.ensures.step c.renew.ensures.rests c.step-in-Full.ensures.step

pub returns-in-Full-clause-journaled : goal.returns-in-Full-clause-journaled
returns-in-Full-clause-journaled g c =
    let both = c.calls_go_on.ensures.both g.D.Disk.is_modelled in
    both c.args.core.now c.renew.new.core c.step-in-Full.new.self (both c.args.core.now c.step.new.self c.renew.new.core c.step.ensures.journaled c.renew.ensures.journaled) c.step-in-Full.ensures.journaled
