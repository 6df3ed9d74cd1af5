use Rattle.std.proofs.Common.{Some, subst, sym}
use Rattle.counted_streams.specs.Counts.{counts, sink_of, source_of}
use Rattle.command_line.specs.Job.{plain_job}
use Rattle.command_line.specs.declared.job.Job.{Job}
use Rattle.drda_program.specs.Program.{Does}
use Rattle.drda_server.specs.Serving.{seen, surroundings}
use Rattle.drda_program.proofs.program.do_job.Goals as goal

pub returns-in-Serve : goal.returns-in-Serve
returns-in-Serve g c =
    subst (λ (job : Job). Does (surroundings g.F.StoreFiles.calls g.F.Disk.Disk.is_modelled g.F.Disk.Disk.life g.N.Network.calls g.N.Stream.Read.remaining g.N.Writer.Write.contents) g.F.Disk.Disk.syncs (Some (plain_job job)) (g.R.Read.remaining (source_of c.args.reader.now)) (counts c.args.reader.now c.args.out.now) (seen c.args.files.now c.args.net.now (g.W.Write.contents (sink_of c.args.out.now)))
    c.serve.result (counts c.args.reader.now c.serve.new.out) (seen c.serve.new.files c.serve.new.net (g.W.Write.contents (sink_of c.serve.new.out)))) (sym c.in-Serve.is) c.serve.ensures
