use Rattle.core_calls.specs.Answer.{answer_of}
use Rattle.drda_node.proofs.Cores.{core_loses}
use Rattle.drda_node.proofs.node.end_units.Goals as goal

pub returns-clause-left : goal.returns-clause-left
returns-clause-left g c =
    core_loses g.D.Disk.is_modelled g.D.Disk.life c.answers_belong_to_calls.ensures.belong c.answers_belong_to_calls.ensures.excuses c.args.core.now c.lost-answer.new.self c.args.conversation (answer_of c.lost-answer.result)
    c.args.calls.now.listed c.note.new.self.listed c.is_done.result (record { done = c.is_done.ensures.done; excused = c.is_done.ensures.excused; list = c.note.ensures }) c.lost-answer.ensures.step
