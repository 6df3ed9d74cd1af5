-- What the core has answered is noted, and by that answer whether its step was taken.
use Rattle.std.proofs.Common.{refl}
use Rattle.core_calls.specs.Answer.{answer_of}
use Rattle.core_calls.specs.Call.{call_of}
use Rattle.drda_node.proofs.Cores.{core_asks}
use Rattle.drda_node.proofs.asker.CoreAskerAsk.ask.Goals as goal

pub returns : goal.returns
returns g c =
    let old = c.args.self.now in
    let law = c.answers_belong_to_calls.ensures in (
      record { core = refl; calls = refl; conversation = refl },
      core_asks g.D.Disk.is_modelled g.D.Disk.life law.belong law.excuses old.core.now c.step-answer.new.self old.conversation (call_of c.args.call.now) (answer_of c.step-answer.result) old.calls.now.listed c.note.new.self.listed c.is_done.result
          (record { done = c.is_done.ensures.done; excused = c.is_done.ensures.excused; list = c.note.ensures }) c.step-answer.ensures.step,
      c.step-answer.ensures.journaled,
    )
