-- The tables still have no pages.
use Rattle.rdb_core_tests.proofs.bench.Bench.xa.Goals as goal

pub invariant_of-self : goal.invariant_of-self
invariant_of-self c = c.xa.ensures.pages.inside 0 c.self.invariant
