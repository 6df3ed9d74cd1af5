use Rattle.std.proofs.Common.{refl}
use Rattle.unit_journal.specs.Record.{entries_of}
use Rattle.paged_tables.specs.PagedTables.{store_in}
use Rattle.journal_recorder.proofs.Switching.{after_reading}
use Rattle.journal_recorder.proofs.recorder.DiskRecorder.checkpoint.Goals as goal

pub returns-clause-told : goal.returns-clause-told
returns-clause-told g c =
    after_reading g.D.Disk.is_modelled g.D.Disk.life c.args.self.now (record c.args.self.now { pager = c.find_active.new.pager }) c.in-Ok.ensures.stays c.in-Ok.ensures.cause refl refl refl (store_in c.args.tables.now) (entries_of c.args.records.now) c.args.held c.write_over.new.self c.write_over.result c.write_over.ensures.told
