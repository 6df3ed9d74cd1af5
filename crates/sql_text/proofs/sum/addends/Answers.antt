use Rattle.std.proofs.Common.{arith, rules}
use Rattle.std.proofs.lemmas.Grind.{common_steps}
use Rattle.sql_lex.specs.Tokens.{tokens_ahead}
use Rattle.sql_text.specs.Rules.{addends_at, addends_from}
use Rattle.sql_text.proofs.Turns.{begun, one_more, no_more}
use Rattle.sql_text.proofs.sum.addends.Goals as goal

pub loop-turn-init : goal.loop-turn-init
unfolding addends_at
loop-turn-init c = record { same = begun (λ n found. addends_from n found (tokens_ahead c.args.cursor)) _ _ _ _ c.longest-turns.ensures c.new-found.ensures; markers = first_of (search rules, grind (arith, common_steps)) }

pub returns-in_default-clause-value : goal.returns-in_default-clause-value
unfolding addends_from
returns-in_default-clause-value c =
    let e = one_more (λ n. addends_from n c.loop-turn.found (tokens_ahead c.loop-turn.rest)) _ c.loop-turn._turn c.loop-turn-test.true c.loop-turn.invariant.same in
    first_of (search rules, grind (arith, common_steps))

pub returns-in_err-term-clause-value : goal.returns-in_err-term-clause-value
unfolding addends_from
returns-in_err-term-clause-value c =
    let e = one_more (λ n. addends_from n c.loop-turn.found (tokens_ahead c.loop-turn.rest)) _ c.loop-turn._turn c.loop-turn-test.true c.loop-turn.invariant.same in
    first_of (search rules, grind (arith, common_steps))

pub returns-clause-value : goal.returns-clause-value
unfolding addends_from
returns-clause-value c =
    let e = no_more (λ n. addends_from n c.loop-turn.found (tokens_ahead c.loop-turn.rest)) _ c.loop-turn._turn c.loop-turn-test.false c.loop-turn.invariant.same in
    first_of (search rules, grind (arith, common_steps))

pub loop-turn-preserved : goal.loop-turn-preserved
unfolding addends_from
loop-turn-preserved c =
    let e = one_more (λ n. addends_from n c.loop-turn.found (tokens_ahead c.loop-turn.rest)) _ c.loop-turn._turn c.loop-turn-test.true c.loop-turn.invariant.same in
    record { same = first_of (search rules, grind (arith, common_steps)); markers = first_of (search rules, grind (arith, common_steps)) }
