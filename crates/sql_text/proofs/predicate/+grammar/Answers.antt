use Rattle.std.proofs.Common.{◌<◌, arith, rules}
use Rattle.std.proofs.lemmas.Grind.{common_steps}
use Rattle.sql_lex.specs.Tokens.{tokens_ahead}
use Rattle.sql_lex.specs.declared.terminal.Terminal.TheVariants as w
use Rattle.sql_text.specs.Reading.{take_fixed}
use Rattle.sql_text.specs.Rules.{items, items_from, all_at, any_at, neg_at}
use Rattle.sql_text.proofs.Turns.{begun, one_more, no_more, deeper}
use Rattle.sql_text.proofs.predicate.+grammar.Goals as goal

pub neg-returns-clause-value : goal.neg-returns-clause-value
neg-returns-clause-value t c = let some : 0 < c.args.depth = omega arith in rw (← deeper c.args.depth some) c.level.ensures.value

pub all-loop-turn-init : goal.all-loop-turn-init
unfolding items
all-loop-turn-init t c = record { same = begun (λ n found. items_from (neg_at c.args.depth) (take_fixed w.And) n found (tokens_ahead c.args.cursor)) _ _ _ _ c.longest-turns.ensures c.new-found.ensures; markers = first_of (search rules, grind (arith, common_steps)) }

pub all-loop-turn-preserved : goal.all-loop-turn-preserved
unfolding items_from
all-loop-turn-preserved t c =
    let e = one_more (λ n. items_from (neg_at c.args.depth) (take_fixed w.And) n c.loop-turn.found (tokens_ahead c.loop-turn.rest)) _ c.loop-turn._turn c.loop-turn-test.true c.loop-turn.invariant.same in
    record { same = first_of (search rules, grind (arith, common_steps)); markers = first_of (search rules, grind (arith, common_steps)) }

pub all-returns-in_err-item-clause-value : goal.all-returns-in_err-item-clause-value
unfolding items_from all_at
all-returns-in_err-item-clause-value t c =
    let e = one_more (λ n. items_from (neg_at c.args.depth) (take_fixed w.And) n c.loop-turn.found (tokens_ahead c.loop-turn.rest)) _ c.loop-turn._turn c.loop-turn-test.true c.loop-turn.invariant.same in
    first_of (search rules, grind (arith, common_steps))

pub all-returns-then-not-goes-clause-value : goal.all-returns-then-not-goes-clause-value
unfolding items_from all_at
all-returns-then-not-goes-clause-value t c =
    let e = one_more (λ n. items_from (neg_at c.args.depth) (take_fixed w.And) n c.loop-turn.found (tokens_ahead c.loop-turn.rest)) _ c.loop-turn._turn c.loop-turn-test.true c.loop-turn.invariant.same in
    first_of (search rules, grind (arith, common_steps))

pub all-returns-clause-value : goal.all-returns-clause-value
unfolding items_from all_at
all-returns-clause-value t c =
    let e = no_more (λ n. items_from (neg_at c.args.depth) (take_fixed w.And) n c.loop-turn.found (tokens_ahead c.loop-turn.rest)) _ c.loop-turn._turn c.loop-turn-test.false c.loop-turn.invariant.same in
    first_of (search rules, grind (arith, common_steps))

pub any-loop-turn-init : goal.any-loop-turn-init
unfolding items
any-loop-turn-init t c = record { same = begun (λ n found. items_from (all_at (neg_at c.args.depth)) (take_fixed w.Or) n found (tokens_ahead c.args.cursor)) _ _ _ _ c.longest-turns.ensures c.new-found.ensures; markers = first_of (search rules, grind (arith, common_steps)) }

pub any-loop-turn-preserved : goal.any-loop-turn-preserved
unfolding items_from
any-loop-turn-preserved t c =
    let e = one_more (λ n. items_from (all_at (neg_at c.args.depth)) (take_fixed w.Or) n c.loop-turn.found (tokens_ahead c.loop-turn.rest)) _ c.loop-turn._turn c.loop-turn-test.true c.loop-turn.invariant.same in
    record { same = first_of (search rules, grind (arith, common_steps)); markers = first_of (search rules, grind (arith, common_steps)) }

pub any-returns-in_err-item-clause-value : goal.any-returns-in_err-item-clause-value
unfolding items_from any_at
any-returns-in_err-item-clause-value t c =
    let e = one_more (λ n. items_from (all_at (neg_at c.args.depth)) (take_fixed w.Or) n c.loop-turn.found (tokens_ahead c.loop-turn.rest)) _ c.loop-turn._turn c.loop-turn-test.true c.loop-turn.invariant.same in
    first_of (search rules, grind (arith, common_steps))

pub any-returns-then-not-goes-clause-value : goal.any-returns-then-not-goes-clause-value
unfolding items_from any_at
any-returns-then-not-goes-clause-value t c =
    let e = one_more (λ n. items_from (all_at (neg_at c.args.depth)) (take_fixed w.Or) n c.loop-turn.found (tokens_ahead c.loop-turn.rest)) _ c.loop-turn._turn c.loop-turn-test.true c.loop-turn.invariant.same in
    first_of (search rules, grind (arith, common_steps))

pub any-returns-clause-value : goal.any-returns-clause-value
unfolding items_from any_at
any-returns-clause-value t c =
    let e = no_more (λ n. items_from (all_at (neg_at c.args.depth)) (take_fixed w.Or) n c.loop-turn.found (tokens_ahead c.loop-turn.rest)) _ c.loop-turn._turn c.loop-turn-test.false c.loop-turn.invariant.same in
    first_of (search rules, grind (arith, common_steps))
