use Rattle.std.proofs.Common.{◌≡◌}
use Rattle.drda_server.proofs.Arriving.{HasWaited}
use Rattle.drda_server.proofs.letting_in.LetInStreams.next.Given as goal

abbrev pub invariant-loop : goal.invariant-loop
invariant-loop g l =
    (l.self.listener.now ≡ l.initial.self.listener.now) × (l.self.idle ≡ l.initial.self.idle) × (l.self.failure.now.ends ≡ l.initial.self.failure.now.ends) × HasWaited g.N.Network.calls l.initial.self.listener.now l.initial.self.idle l.initial.self.failure.now.ends l.initial.self.left l.self.left l.counter
