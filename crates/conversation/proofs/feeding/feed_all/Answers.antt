use Rattle.std.proofs.Common.{◌≡◌, ◌⊎◌, ◌≤◌, ◌<◌, ℕ, inl, inr, arith}
use Rattle.conversation.specs.Attended.{attended_by}
use Rattle.conversation.proofs.Listening.{whole}
use Rattle.conversation.proofs.feeding.feed_all.Goals as goal

all_taken : (taken size most bytes : ℕ) → (taken ≡ size) ⊎ (most < bytes) → bytes ≤ most → size ≤ taken
all_taken taken size most bytes (inl e) few = omega (arith, e)
all_taken taken size most bytes (inr more) few = omega (arith, more, few)

pub returns-clause-hears : goal.returns-clause-hears
returns-clause-hears g c =
    let some = c.feed_some.result in
    let out = c.feed_some.new.out in
    whole g.A.Ask.asks c.args.front.now.settings some.heard (attended_by c.args.front.now c.args.asker.now) (attended_by c.feed_some.new.front c.feed_some.new.asker) c.args.piece.now c.args.out.now.items out.items some.taken
    c.feed_some.ensures.hears (λ is. all_taken some.taken _ _ _ (c.feed_some.ensures.all is) (omega (arith, out.ok.0)))
