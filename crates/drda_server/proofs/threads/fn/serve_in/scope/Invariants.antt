use Rattle.drda_server.specs.Threads.{IsAttended, IsReceived, IsTurnedAway}
use Rattle.drda_server.proofs.Settling.{Stands}
use Rattle.drda_server.proofs.threads.fn.serve_in.scope.Given as goal

abbrev pub invariant-serving : goal.invariant-serving
invariant-serving g l =
    Stands (IsTurnedAway g.D.Disk.is_modelled g.D.Disk.life g.B.Origin.is) (IsReceived g.D.Disk.is_modelled g.D.Disk.life g.B.Origin.is g.S.Reader.Read.remaining g.S.Writer.Write.contents l.hall.settings.now) (λ h. IsAttended g.D.Disk.is_modelled g.D.Disk.life g.B.Origin.is g.S.Reader.Read.remaining g.S.Writer.Write.contents h.promise.settings.value h.promise.pass.value h.promise.reader.value h.promise.writer.value)
    g.S.Streams.gives l.threads.items l.initial.streams l.streams
