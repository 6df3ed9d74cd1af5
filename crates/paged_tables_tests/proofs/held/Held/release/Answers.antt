use Rattle.std.proofs.Common.{length}
use Rattle.paged_tables_tests.proofs.held.Held.release.Goals as goal

pub invariant_of-self : goal.invariant_of-self
invariant_of-self g c = c.release.ensures.pages.inside (length (g.D.Disk.life c.self.inside.pager).seen) c.self.invariant
