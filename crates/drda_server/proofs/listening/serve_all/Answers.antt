use Rattle.std.proofs.Common.{ap, ◌∙◌, inr}
use Rattle.drda_server.proofs.Arriving.{served_streams}
use Rattle.drda_server.proofs.listening.serve_all.Goals as goal

pub returns-then-has_failed-clause-served : goal.returns-then-has_failed-clause-served
returns-then-has_failed-clause-served g c =
    inr (served_streams g.N.Network.calls (λ s. s.listener.now) (λ s. s.idle) (λ s. s.failure.now.ends) (λ s. s.left) g.D.Disk.is_modelled g.D.Disk.life g.B.Origin.is g.N.Stream.Read.remaining g.N.Writer.Write.contents c.args.settings.now c.args.options c.new-streams.result c.args.listener.now c.unwrap_or-count.result
    c.new-streams.ensures.listener c.new-streams.ensures.idle (ap (λ f. f.ends) c.new-streams.ensures.failure ∙ c.new-failure.ensures) c.new-streams.ensures.count c.unwrap_or-count.ensures c.in_ok-serve_streams.ensures)

pub returns-clause-served : goal.returns-clause-served
returns-clause-served g c =
    inr (served_streams g.N.Network.calls (λ s. s.listener.now) (λ s. s.idle) (λ s. s.failure.now.ends) (λ s. s.left) g.D.Disk.is_modelled g.D.Disk.life g.B.Origin.is g.N.Stream.Read.remaining g.N.Writer.Write.contents c.args.settings.now c.args.options c.new-streams.result c.args.listener.now c.unwrap_or-count.result
    c.new-streams.ensures.listener c.new-streams.ensures.idle (ap (λ f. f.ends) c.new-streams.ensures.failure ∙ c.new-failure.ensures) c.new-streams.ensures.count c.unwrap_or-count.ensures c.in_ok-serve_streams.ensures)
