-- The tables still have no pages.
use Rattle.std.proofs.Common.{subst, sym}
use Rattle.paged_tables.specs.TablesByName.{LieInside, Tables}
use Rattle.rdb_core_tests.proofs.bench.Bench.restored.Goals as goal

pub invariant_of-result : goal.invariant_of-result
invariant_of-result c = c.restore.ensures.pages.inside 0 (subst (λ (t : Tables). LieInside 0 t) (sym c.start-core.ensures.pages) tt)
