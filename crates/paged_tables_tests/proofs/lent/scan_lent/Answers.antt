use Rattle.std.proofs.Common.{length}
use Rattle.paged_tables_tests.proofs.lent.scan_lent.Goals as goal

pub scan_judged-requires : goal.scan_judged-requires
scan_judged-requires g c = c.in-Some.ensures (length (g.D.Disk.life c.args.pager.now).seen) c.requires
