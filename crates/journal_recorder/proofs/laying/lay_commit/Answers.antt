use Rattle.std.proofs.Common.{rules, map}
use Rattle.tables.specs.ChangeView.{change_of}
use Rattle.unit_journal.specs.LaidRecord.{entry_in}
use Rattle.unit_records.specs.Records.{committed}
use Rattle.journal_recorder.proofs.Entries.{entry_is}
use Rattle.journal_recorder.proofs.laying.lay_commit.Goals as goal

pub returns-clause-ok : goal.returns-clause-ok
returns-clause-ok c layout = record {
  entry = entry_is (committed (map change_of c.args.changes.now)) (entry_in c.in_ok-finish.field-0) c.in_ok-bytes.bytes.items _ c.in_ok-finish.ensures.entry c.in_ok-write_commit.ensures.ok c.in_ok-bytes.ensures.front;
  good = search rules;
  fits = search rules;
}
