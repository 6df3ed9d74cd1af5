use Rattle.std.proofs.Common.{◌∙◌, map}
use Rattle.counted_streams.specs.Counts.{counts, sink_of, source_of}
use Rattle.command_line.specs.Job.{said}
use Rattle.drda_server.specs.Serving.{seen, surroundings}
use Rattle.store_files.proofs.Fronts.{front_of}
use Rattle.drda_program.proofs.Ending.{exits}
use Rattle.drda_program.proofs.program.run_words.Goals as goal

pub returns : goal.returns
returns g c =
    exits (surroundings g.F.StoreFiles.calls g.F.Disk.Disk.is_modelled g.F.Disk.Disk.life g.N.Network.calls g.N.Stream.Read.remaining g.N.Writer.Write.contents) g.F.Disk.Disk.syncs (g.R.Read.remaining (source_of c.args.reader.now)) (counts c.args.reader.now c.args.out.now) (counts c.try_words.new.reader c.try_words.new.out) (said (map g.S.AsStr.text c.args.words.now))
    (seen c.args.files.now c.args.net.now (g.W.Write.contents (sink_of c.args.out.now))) (seen c.try_words.new.files c.try_words.new.net (g.W.Write.contents (sink_of c.try_words.new.out))) _ (g.E.Write.contents c.write_whole.new.writer) (g.E.Write.contents c.explain.new.err) _ c.in-Err.fault c.status.result c.as_bytes.result.now c.status.ensures c.in-Err.ensures.does
    (λ some good. c.as_bytes.ensures.value ∙ (c.in-Err.ensures.quiet some (λ same. good (cc same)) ∙ c.new-text.ensures.bytes))
    (front_of c.write_whole.result _ _ c.as_bytes.result.now c.write_whole.ensures.ok c.write_whole.ensures.err) c.explain.ensures c.say.ensures
