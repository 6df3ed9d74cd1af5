use Rattle.early_disk.specs.Shown.{behind_sync}
use Rattle.early_disk.proofs.shown.Showing.note_sync.Given as goal

abbrev pub ghost-set : goal.ghost-set
ghost-set g a = behind_sync a.self.now.value
