-- The tables still have no pages.
use Rattle.core_stories_tests.proofs.bench.BenchCalls.step.Goals as goal

pub invariant_of-self : goal.invariant_of-self
invariant_of-self c = c.step-answer.ensures.pages.inside 0 c.self.invariant
