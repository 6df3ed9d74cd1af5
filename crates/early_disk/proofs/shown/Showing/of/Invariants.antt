use Rattle.early_disk.specs.Shown.{first_shown}
use Rattle.early_disk.proofs.shown.Showing.of.Given as goal

abbrev pub ghost-of : goal.ghost-of
ghost-of g a = first_shown (g.D.Disk.life a.from.now).seen (g.D.Disk.life a.from.now).moment a.from.now
