use Rattle.std.proofs.Common.{[], ◌∷◌}
use Rattle.unit_records.specs.MadeRecords.{with_begun}
use Rattle.journal_recorder.proofs.made.MadeRecords.leave_open.Given as goal

abbrev pub ghost-set : goal.ghost-set
ghost-set a = with_begun a.self.now.value ((record { kind = a.from.now.0; body = a.from.now.1.now } ∷ []) ∷ [])
