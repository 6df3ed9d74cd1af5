use Rattle.std.proofs.Common.{◌≡◌, length}
use Rattle.drda_disk.specs.Disk.{Stays}
use Rattle.checkpoint_writer_tests.proofs.pages.first_keys.Given as goal

abbrev pub invariant-loop-page : goal.invariant-loop-page
invariant-loop-page g l = record {
  stays : Stays (g.D.Disk.life l.fn.pager) (g.D.Disk.life l.pager);
  count : length l.keys.items ≡ l.page;
}
