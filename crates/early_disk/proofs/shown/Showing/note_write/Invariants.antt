use Rattle.early_disk.specs.Shown.{behind_write}
use Rattle.early_disk.proofs.shown.Showing.note_write.Given as goal

abbrev pub ghost-set : goal.ghost-set
ghost-set g a = behind_write g.D.Disk.is_modelled g.D.Disk.life a.self.now.value a.from.now
