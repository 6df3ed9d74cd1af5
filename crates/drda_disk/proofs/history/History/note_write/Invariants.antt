use Rattle.std.proofs.Common.{◌∷◌}
use Rattle.drda_disk.specs.Replay.{wrote}
use Rattle.drda_disk.proofs.history.History.note_write.Given as goal

abbrev pub ghost-set : goal.ghost-set
ghost-set a = wrote a.from.now.0 a.from.now.1.now ∷ a.self.now.value
