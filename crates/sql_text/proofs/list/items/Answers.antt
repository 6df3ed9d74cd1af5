use Rattle.std.proofs.Common.{arith, rules}
use Rattle.std.proofs.lemmas.Grind.{common_steps}
use Rattle.sql_lex.specs.Tokens.{tokens_ahead}
use Rattle.sql_text.specs.Rules.{items, items_from}
use Rattle.sql_text.proofs.Turns.{begun, one_more, no_more}
use Rattle.sql_text.proofs.list.items.Goals as goal

pub loop-turn-init : goal.loop-turn-init
unfolding items
loop-turn-init g c = record {
  same = begun (λ n found. items_from g.T.ListItem.item_at g.T.ListItem.more_at n found (tokens_ahead c.args.cursor)) _ _ _ _ c.longest-turns.ensures c.new-found.ensures;
  markers = first_of (search rules, grind (arith, common_steps));
}

pub loop-turn-preserved : goal.loop-turn-preserved
unfolding items_from
loop-turn-preserved g c =
    let e = one_more (λ n. items_from g.T.ListItem.item_at g.T.ListItem.more_at n c.loop-turn.found (tokens_ahead c.loop-turn.rest)) _ c.loop-turn._turn c.loop-turn-test.true c.loop-turn.invariant.same in
    record { same = first_of (search rules, grind (arith, common_steps)); markers = first_of (search rules, grind (arith, common_steps)) }

pub returns-in_err-item-clause-value : goal.returns-in_err-item-clause-value
unfolding items_from
returns-in_err-item-clause-value g c =
    let e = one_more (λ n. items_from g.T.ListItem.item_at g.T.ListItem.more_at n c.loop-turn.found (tokens_ahead c.loop-turn.rest)) _ c.loop-turn._turn c.loop-turn-test.true c.loop-turn.invariant.same in
    first_of (search rules, grind (arith, common_steps))

pub returns-in_err-goes-clause-value : goal.returns-in_err-goes-clause-value
unfolding items_from
returns-in_err-goes-clause-value g c =
    let e = one_more (λ n. items_from g.T.ListItem.item_at g.T.ListItem.more_at n c.loop-turn.found (tokens_ahead c.loop-turn.rest)) _ c.loop-turn._turn c.loop-turn-test.true c.loop-turn.invariant.same in
    first_of (search rules, grind (arith, common_steps))

pub returns-then-not-goes-clause-value : goal.returns-then-not-goes-clause-value
unfolding items_from
returns-then-not-goes-clause-value g c =
    let e = one_more (λ n. items_from g.T.ListItem.item_at g.T.ListItem.more_at n c.loop-turn.found (tokens_ahead c.loop-turn.rest)) _ c.loop-turn._turn c.loop-turn-test.true c.loop-turn.invariant.same in
    first_of (search rules, grind (arith, common_steps))

pub returns-clause-value : goal.returns-clause-value
unfolding items_from
returns-clause-value g c =
    let e = no_more (λ n. items_from g.T.ListItem.item_at g.T.ListItem.more_at n c.loop-turn.found (tokens_ahead c.loop-turn.rest)) _ c.loop-turn._turn c.loop-turn-test.false c.loop-turn.invariant.same in
    first_of (search rules, grind (arith, common_steps))
