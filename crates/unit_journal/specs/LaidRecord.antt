-- What a laid record shows.
use Rattle.unit_journal.specs.Record.{Entry, body_in}
use Rattle.unit_journal.specs.declared.laid_record.LaidRecord.{LaidRecord}

abbrev pub entry_in : LaidRecord → Entry
entry_in laid = record { kind = laid.kind; body = body_in laid.bytes.items }
