use Rattle.std.proofs.Common.{ap, inr, rules}
use Rattle.core_calls.specs.Answer.{answer_of}
use Rattle.core_calls.specs.Call.{call_of}
use Rattle.core_history.specs.Passes.{Knows}
use Rattle.core_history.proofs.Opening.{finds_none, goes_on, stays}
use Rattle.core_history.proofs.book.Book.act.Goals as goal

pub invariant_of-self : goal.invariant_of-self
invariant_of-self g c =
    stays g.D.Disk.is_modelled g.D.Disk.life c.answers_belong_to_calls.ensures.belong c.answers_belong_to_calls.ensures.excuses c.self.inside.core c.self.inside.opening.value c.ask.new.core c.self.inside.calls.listed c.self.inside.places.items c.self.inside.left.items c.self.inside.next
    c.args.pass.now.conversation (call_of c.args.call.now) (answer_of c.ask.result) (ap answer_of c.in-NoMemory.is) c.calls_go_on.ensures c.self.invariant c.ask.ensures.answered c.ask.ensures.journaled

pub invariant_of-self-in_default : goal.invariant_of-self-in_default
invariant_of-self-in_default g c =
    goes_on g.D.Disk.is_modelled g.D.Disk.life c.answers_belong_to_calls.ensures.belong c.answers_belong_to_calls.ensures.excuses c.answers_are_serial.ensures.lead_on c.self.inside.core c.self.inside.opening.value c.ask.new.core c.self.inside.calls.listed
    c.list.new.calls.listed c.self.inside.places.items c.list.new.places.items c.self.inside.left.items c.self.inside.next c.args.pass.now.place _ c.args.pass.now.conversation (call_of c.args.call.now) (answer_of c.ask.result) c.is_done-is_taken.result c.is_done-is_taken.ensures.done
    c.is_done-is_taken.ensures.excused c.list.ensures.calls c.list.ensures.places (c.list.ensures.counted c.self.inside.next) (c.list.ensures.left c.self.inside.left.items) c.calls_go_on.ensures c.self.invariant
    c.ask.ensures.answered c.ask.ensures.journaled

pub returns-in-NoMemory-clause-acts : goal.returns-in-NoMemory-clause-acts
returns-in-NoMemory-clause-acts g c =
    let knows : Knows c.args.self.now c.args.pass.now = search rules in
    inr (finds_none g.D.Disk.is_modelled g.D.Disk.life c.answers_belong_to_calls.ensures.belong c.answers_belong_to_calls.ensures.excuses _ c.args.self.now c.args.pass.now (call_of c.args.call.now) (answer_of c.ask.result) c.ask.new.core c.self.view_is
    (ap answer_of c.in-NoMemory.is) knows c.ask.ensures.answered)
