-- The tables still have no pages.
use Rattle.rdb_core_tests.proofs.bench.Bench.commit.Goals as goal

pub invariant_of-self : goal.invariant_of-self
invariant_of-self c = c.commit.ensures.pages.inside 0 c.self.invariant
