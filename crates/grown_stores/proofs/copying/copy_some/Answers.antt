use Rattle.std.proofs.Common.{arith}
use Rattle.half_store.proofs.Formatted.{unmarked_torn}
use Rattle.grown_stores.proofs.copying.copy_some.Goals as goal

pub returns-in-Ok-write_at-clause-moments : goal.returns-in-Ok-write_at-clause-moments
returns-in-Ok-write_at-clause-moments g c bare = unmarked_torn c.args.at _ _ _ (omega (arith, c.requires.behind)) c.write_at.ensures.tears bare

pub returns-clause-moments : goal.returns-clause-moments
returns-clause-moments g c bare = unmarked_torn c.args.at _ _ _ (omega (arith, c.requires.behind)) c.write_at.ensures.tears bare
