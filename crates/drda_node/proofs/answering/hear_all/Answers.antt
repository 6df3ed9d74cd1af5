use Rattle.std.proofs.Common.{ℕ, List, [], subst, append-nil}
use Rattle.drda_node.specs.Register.{machine}
use Rattle.drda_node.specs.Hearing.{HearsAt}
use Rattle.drda_node.proofs.Refusing.{heard_anyway}
use Rattle.drda_node.proofs.answering.hear_all.Goals as goal

pub returns-in-Open-clause-hears : goal.returns-in-Open-clause-hears
returns-in-Open-clause-hears g c = let h = c.in-Open.ensures.hears in (h.after, h.replies, h.appended, h.hears, h.still_open)

pub returns-in-Closed-clause-hears : goal.returns-in-Closed-clause-hears
returns-in-Closed-clause-hears g c =
    let h = c.in-Closed.ensures.hears in
    let first = machine c.args.node.now in
    let last = machine c.feed_all_at.new.self in (
      h.after,
      h.replies,
      h.appended,
      subst (λ (z : List ℕ). HearsAt first c.args.place z h.replies h.after last) (append-nil c.args.bytes.now) (h.hears []),
      h.closed,
    )

pub returns-in-Open-clause-anyway : goal.returns-in-Open-clause-anyway
returns-in-Open-clause-anyway g c =
    heard_anyway c.feed_all_at.result (machine c.args.node.now) (machine c.feed_all_at.new.self) c.args.place c.args.bytes.now c.args.text.now.items c.feed_all_at.new.out.items c.feed_all_at.ensures.hears

pub returns-in-Closed-clause-anyway : goal.returns-in-Closed-clause-anyway
returns-in-Closed-clause-anyway g c =
    heard_anyway c.feed_all_at.result (machine c.args.node.now) (machine c.feed_all_at.new.self) c.args.place c.args.bytes.now c.args.text.now.items c.feed_all_at.new.out.items c.feed_all_at.ensures.hears

pub returns-in-NoMemory-clause-anyway : goal.returns-in-NoMemory-clause-anyway
returns-in-NoMemory-clause-anyway g c =
    heard_anyway c.feed_all_at.result (machine c.args.node.now) (machine c.feed_all_at.new.self) c.args.place c.args.bytes.now c.args.text.now.items c.feed_all_at.new.out.items c.feed_all_at.ensures.hears
