use Rattle.std.proofs.Common.{ap, ◌∙◌}
use Rattle.counted_streams.specs.Counts.{sink_of, source_of}
use Rattle.drda_node.specs.Register.{core_in, machine}
use Rattle.store_service.proofs.Stores.{ran}
use Rattle.store_service.proofs.running.run_core.Goals as goal

pub returns-in-Ok-start-clause-runs : goal.returns-in-Ok-start-clause-runs
returns-in-Ok-start-clause-runs g c =
    ran g.D.Disk.is_modelled g.D.Disk.life c.args.user.now c.args.password.now c.args.core (core_in c.in-Ok-start.node) (machine c.in-Ok-start.node) _ c.in-Ok-start.ensures.core c.in-Ok-start.ensures.machine
    (c.in-Ok.ensures.ok ∙ ap (λ rdb. record { user = c.args.user.now; password = c.args.password.now; rdb = rdb }) c.name.ensures) (g.R.Read.remaining (source_of c.args.reader.now)) (g.W.Write.contents (sink_of c.args.writer.now)) (g.W.Write.contents (sink_of c.run_node.new.writer)) c.run_node.result
    c.run_node.ensures.runs
