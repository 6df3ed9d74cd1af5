use Rattle.std.proofs.Common.{ap, arith, inl, inr, refl, ◌≡◌, ◌⊎◌, ◌∙◌, [], Ok, ℕ, subst, sym}
use Rattle.drda_server.proofs.Arriving.{closed_then, failed_then}
use Rattle.drda_server.proofs.letting_in.LetInStreams.next.Goals as goal
use Rattle.drda_server.proofs.letting_in.LetInStreams.next.Goals.{in-Ok-None, in-Err}

pub loop-init : goal.loop-init
loop-init g c = (refl, refl, refl, record { closed = []; closes = tt; left_are = inl (omega arith); turns_are = inr refl })

pub loop-preserved : goal.loop-preserved
loop-preserved g c = elim c.match-let_in.branch [
  | in-Ok-None w ↦
      closed_then g.N.Network.calls c.args.self.now.listener.now c.args.self.now.idle c.args.self.now.failure.now.ends c.loop.self.listener.now c.match-let_in.self.listener.now c.loop.self.idle c.match-let_in.self.idle c.loop.self.failure.now.ends c.match-let_in.self.failure.now.ends c.args.self.now.left c.loop.self.left c.in_ok-left.left c.match-let_in.self.left c.loop.counter c.loop.invariant
      (ap (λ s. s.listener.now) w.self-is) (ap (λ s. s.idle) w.self-is) (ap (λ s. s.failure.now.ends) w.self-is) (ap (λ s. s.left) w.self-is) c.in_ok-left.ensures (c.let_in.ensures.closed (w.in-Ok-None.is ∙ ap Ok w.in-Ok-None.field-0-is))
  | in-Err w ↦
      failed_then g.N.Network.calls c.args.self.now.listener.now c.args.self.now.idle c.args.self.now.failure.now.ends c.loop.self.listener.now c.match-let_in.self.listener.now c.loop.self.idle c.match-let_in.self.idle c.loop.self.failure.now.ends c.match-let_in.self.failure.now.ends c.args.self.now.left c.loop.self.left c.match-let_in.self.left c.loop.counter c.loop.invariant
      (ap (λ s. s.listener.now) w.self-is ∙ ap (λ l. l.now) w.bear_failure.ensures.listener) (ap (λ s. s.idle) w.self-is ∙ w.bear_failure.ensures.idle) (ap (λ s. s.failure.now.ends) w.self-is ∙ ap (λ f. f.now.ends) w.bear_failure.ensures.failure)
      (subst (λ (n : ℕ). (n ≡ c.loop.self.left) ⊎ (n ≡ 0)) (sym (ap (λ s. s.left) w.self-is)) w.bear_failure.ensures.left) w.in-Err.ensures.failed
]
