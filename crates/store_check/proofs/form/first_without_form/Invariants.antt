use Rattle.std.proofs.Common.{◌≡◌}
use Rattle.std.specs.Prelude.{IsTrue}
use Rattle.drda_disk.specs.Disk.{Stays}
use Rattle.store_check.specs.Half.{HaveForm, pages_of}
use Rattle.store_check.proofs.form.first_without_form.Given as goal

abbrev pub invariant-loop-page : goal.invariant-loop-page
invariant-loop-page g l = record {
  stays : Stays (g.D.Disk.life l.fn.pager) (g.D.Disk.life l.pager);
  faults : (g.D.Disk.life l.pager).faults ≡ (g.D.Disk.life l.fn.pager).faults;
  formed : IsTrue g.D.Disk.is_modelled → HaveForm (g.D.Disk.life l.fn.pager).seen (pages_of l.active) l.page;
}
