use Rattle.counted_streams.specs.Counts.{counts, sink_of, source_of, write_faults_of}
use Rattle.command_line.specs.Job.{plain_login}
use Rattle.drda_program.specs.Streams.{streams}
use Rattle.drda_program.proofs.Ran.{answered}
use Rattle.drda_program.proofs.records.answer_records.Goals as goal

pub returns : goal.returns
returns g c =
    answered g.D.Disk.is_modelled g.D.Disk.life c.args.core (plain_login c.args.login) (g.R.Read.remaining (source_of c.args.reader.now)) (streams (g.W.Write.contents (sink_of c.args.out.now)) (counts c.args.reader.now c.args.out.now))
    (g.W.Write.contents (sink_of c.run_core-ended.new.writer)) (g.W.Write.contents (sink_of c.report.new.out)) (counts c.run_core-ended.new.reader c.run_core-ended.new.writer) (write_faults_of c.report.new.out)
    c.run_core-ended.result c.report.result c.run_core-ended.ensures.runs c.run_core-ended.ensures.cause c.report.ensures
