use Rattle.std.proofs.Common.{◌∷◌}
use Rattle.drda_disk.specs.Replay.{synced}
use Rattle.drda_disk.proofs.history.History.note_sync.Given as goal

abbrev pub ghost-set : goal.ghost-set
ghost-set a = synced ∷ a.self.now.value
