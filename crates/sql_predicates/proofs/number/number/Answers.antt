use Rattle.std.proofs.Common.{◌∙◌}
use Rattle.sql_predicates.proofs.Numbers.{none, with_sign, without_sign}
use Rattle.sql_predicates.proofs.number.number.Goals as goal

pub returns-in-empty : goal.returns-in-empty
returns-in-empty c = none c.args.spelled.now c.in-empty.len_below

pub returns-then-first-eq45 : goal.returns-then-first-eq45
returns-then-first-eq45 c = c.negative.ensures ∙ with_sign c.args.spelled.now c.magnitude.result c.in-len1-up.len_at_least c.if-first-eq45.true c.magnitude.ensures

pub returns-else-first-eq45 : goal.returns-else-first-eq45
returns-else-first-eq45 c = c.positive.ensures ∙ without_sign c.args.spelled.now c.magnitude-else-first-eq45.result c.in-len1-up.len_at_least c.if-first-eq45.false c.magnitude-else-first-eq45.ensures
