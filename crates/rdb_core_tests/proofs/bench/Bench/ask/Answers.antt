-- The tables still have no pages.
use Rattle.rdb_core_tests.proofs.bench.Bench.ask.Goals as goal

pub invariant_of-self : goal.invariant_of-self
invariant_of-self c = c.query-answer.ensures.pages.inside 0 c.self.invariant

pub invariant_of-self-in_default : goal.invariant_of-self-in_default
invariant_of-self-in_default c = c.run-answer.ensures.pages.inside 0 c.self.invariant
