use Rattle.drda_server.specs.Threads.{IsAttended}
use Rattle.drda_server.proofs.Settling.{Joins}
use Rattle.drda_server.proofs.handles.join_all.Given as goal

abbrev pub invariant-loop-place : goal.invariant-loop-place
invariant-loop-place g l =
    Joins (λ h. IsAttended g.D.Disk.is_modelled g.D.Disk.life g.B.Origin.is g.I.Read.remaining g.O.Write.contents h.promise.settings.value h.promise.pass.value h.promise.reader.value h.promise.writer.value) l.initial.threads.items l.threads.items l.place
