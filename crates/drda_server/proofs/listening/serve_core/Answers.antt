use Rattle.std.proofs.Common.{inl, refl}
use Rattle.drda_server.proofs.Conversing.{core_served}
use Rattle.drda_server.proofs.listening.serve_core.Goals as goal

pub returns : goal.returns
returns g c =
    core_served g.N.Network.calls g.D.Disk.is_modelled g.D.Disk.life g.B.Origin.is g.N.Stream.Read.remaining g.N.Writer.Write.contents c.args.options c.args.settings.now c.args.port c.args.net.now c.listen-listened.new.net (g.W.Write.contents c.args.out.now) (g.W.Write.contents c.listen-listened.new.out) c.listen-listened.result
    c.end_of-ended.result c.and.result c.and.ensures c.listen-listened.ensures c.end_of-ended.ensures.cause c.end_of-ended.ensures.ends
