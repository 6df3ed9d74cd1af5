use Rattle.std.proofs.Common.{subst}
use Rattle.std.specs.Prelude.{IfSome}
use Rattle.counted_streams.specs.Counts.{sink_of, source_of}
use Rattle.conversation.specs.Attended.{attended_by}
use Rattle.conversation.specs.Held.{Held}
use Rattle.stream_service.specs.Serving.{Serves}
use Rattle.stream_service.proofs.Streams.{serves}
use Rattle.stream_service.proofs.serving.serve.Goals as goal

pub returns-clause-serves : goal.returns-clause-serves
returns-clause-serves g c =
    let bounded = c.keep_within.new.self in
    subst
    (λ (front : Held). IfSome (g.R.Read.remaining (source_of c.args.reader.now)) (λ input. Serves g.A.Ask.asks front.settings (attended_by front c.args.asker.now) input (g.W.Write.contents (sink_of c.args.writer.now)) c.converse-served.result (g.W.Write.contents (sink_of c.converse-served.new.writer)) c.ask.new.self))
    c.keep_within.ensures
    (serves g.A.Ask.asks bounded.settings (attended_by bounded c.args.asker.now) (attended_by c.converse-served.new.front c.converse-served.new.asker) c.ask.new.self c.converse-served.result
    (g.R.Read.remaining (source_of c.args.reader.now)) (g.W.Write.contents (sink_of c.args.writer.now)) (g.W.Write.contents (sink_of c.converse-served.new.writer)) c.converse-served.ensures.converses (_, c.ask.ensures))

pub returns-clause-lost : goal.returns-clause-lost
returns-clause-lost g c = (c.converse-served.new.asker, (_, c.ask.ensures))
