use Rattle.std.proofs.Common.{length}
use Rattle.paged_tables_tests.proofs.held.Held.reserve.Goals as goal

pub invariant_of-self : goal.invariant_of-self
invariant_of-self g c = c.reserve.ensures.pages.inside (length (g.D.Disk.life c.self.inside.pager).seen) c.self.invariant
