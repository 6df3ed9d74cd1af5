use Rattle.unit_records.specs.MadeRecords.{none_made}
use Rattle.journal_recorder.proofs.made.MadeRecords.none.Given as goal

abbrev pub ghost-of : goal.ghost-of
ghost-of a = none_made
