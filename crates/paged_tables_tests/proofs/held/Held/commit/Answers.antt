use Rattle.std.proofs.Common.{length}
use Rattle.paged_tables_tests.proofs.held.Held.commit.Goals as goal

pub invariant_of-self : goal.invariant_of-self
invariant_of-self g c = c.reserve.ensures.pages.inside (length (g.D.Disk.life c.self.inside.pager).seen) c.self.invariant

pub invariant_of-self-2 : goal.invariant_of-self-2
invariant_of-self-2 g c = c.apply_reserved.ensures.pages.inside (length (g.D.Disk.life c.self.inside.pager).seen) (c.reserve.ensures.pages.inside (length (g.D.Disk.life c.self.inside.pager).seen) c.self.invariant)
