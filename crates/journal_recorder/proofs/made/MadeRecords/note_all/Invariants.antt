use Rattle.std.proofs.Common.{[], ◌∷◌}
use Rattle.unit_records.specs.MadeRecords.{with_done}
use Rattle.journal_recorder.proofs.made.MadeRecords.note_all.Given as goal

abbrev pub ghost-set : goal.ghost-set
ghost-set a = with_done a.self.now.value (a.from.now ∷ [])
