-- The tables still have no pages.
use Rattle.core_scripts_tests.proofs.bench.Bench.together.Goals as goal

pub invariant_of-self : goal.invariant_of-self
invariant_of-self c = c.make_together.ensures.pages.inside 0 c.self.invariant
