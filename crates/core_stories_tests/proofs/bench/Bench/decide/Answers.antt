-- The tables still have no pages.
use Rattle.core_stories_tests.proofs.bench.Bench.decide.Goals as goal

pub invariant_of-self : goal.invariant_of-self
invariant_of-self c = c.decide.ensures.pages.inside 0 c.self.invariant

pub invariant_of-self-2 : goal.invariant_of-self-2
invariant_of-self-2 c = c.decide.ensures.pages.inside 0 c.self.invariant
