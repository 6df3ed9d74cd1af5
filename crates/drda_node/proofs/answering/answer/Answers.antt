use Rattle.std.proofs.Common.{subst, sym}
use Rattle.std.specs.Prelude.{OnErr, OnOk}
use Rattle.drda_node.specs.Reading.{event_of}
use Rattle.drda_node.specs.Register.{core_in, machine}
use Rattle.drda_node.specs.declared.event.Head.{Head}
use Rattle.drda_node.specs.Happening.{BreaksOff}
use Rattle.drda_node.specs.Stations.{TellsCheckpoint}
use Rattle.drda_node.proofs.Refusing.{tells_at}
use Rattle.drda_node.proofs.answering.answer.Goals as goal

pub returns-in-Checkpoints-clause-breaks_off : goal.returns-in-Checkpoints-clause-breaks_off
returns-in-Checkpoints-clause-breaks_off g c =
    subst (λ (head : Head). OnErr c.answer_checkpoint.result (BreaksOff (machine c.args.node.now) (event_of head c.args.bytes.now) (machine c.answer_checkpoint.new.node))) (sym c.in-Checkpoints.is) c.answer_checkpoint.ensures.breaks_off

pub returns-in-Opens-clause-checkpoint : goal.returns-in-Opens-clause-checkpoint
returns-in-Opens-clause-checkpoint g c =
    tells_at c.answer_open.result (λ (head : Head). TellsCheckpoint g.D.Disk.is_modelled g.D.Disk.life (core_in c.args.node.now) (event_of head c.args.bytes.now) c.answer_open.new.text.items (core_in c.answer_open.new.node)) c.args.head _ c.in-Opens.is tt

pub returns-in-Sends-clause-checkpoint : goal.returns-in-Sends-clause-checkpoint
returns-in-Sends-clause-checkpoint g c =
    tells_at c.answer_bytes.result (λ (head : Head). TellsCheckpoint g.D.Disk.is_modelled g.D.Disk.life (core_in c.args.node.now) (event_of head c.args.bytes.now) c.answer_bytes.new.text.items (core_in c.answer_bytes.new.node)) c.args.head _ c.in-Sends.is tt

pub returns-in-Loses-clause-checkpoint : goal.returns-in-Loses-clause-checkpoint
returns-in-Loses-clause-checkpoint g c =
    tells_at c.answer_lost.result (λ (head : Head). TellsCheckpoint g.D.Disk.is_modelled g.D.Disk.life (core_in c.args.node.now) (event_of head c.args.bytes.now) c.answer_lost.new.text.items (core_in c.answer_lost.new.node)) c.args.head _ c.in-Loses.is tt

pub returns-in-Checkpoints-clause-checkpoint : goal.returns-in-Checkpoints-clause-checkpoint
returns-in-Checkpoints-clause-checkpoint g c =
    subst (λ (head : Head). OnOk c.answer_checkpoint.result (TellsCheckpoint g.D.Disk.is_modelled g.D.Disk.life (core_in c.args.node.now) (event_of head c.args.bytes.now) c.answer_checkpoint.new.text.items (core_in c.answer_checkpoint.new.node)))
    (sym c.in-Checkpoints.is) c.answer_checkpoint.ensures.checkpoint
