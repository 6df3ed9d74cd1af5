use Rattle.std.proofs.Common.{◌≡◌, ◌+◌, ◌≤◌, List, length, map, ◌∙◌, ap, subst, sym, arith}
use Rattle.unit_journal.specs.Record.{Entry, laid as spelled}
use Rattle.unit_journal.specs.Staged.{MayOpenEarly}
use Rattle.unit_records.specs.RecordContents.{said_by}
use Rattle.unit_records.specs.Records.{UnitRecord}
use Rattle.unit_records.specs.Room.{taken_by}
use Rattle.journal_recorder.specs.Recording.{disk_of, staged_of}
use Rattle.journal_recorder.proofs.Together.{length-laid}
use Rattle.journal_recorder.proofs.recorder.DiskRecorderRecorder.open_early.Goals as goal

pub open_group-requires-clause-allowed : goal.open_group-requires-clause-allowed
open_group-requires-clause-allowed g c honest fits =
    let records : List UnitRecord = map said_by c.args.sayings.now in
    let are = c.in-Some.ensures.laid in
    let size : length (spelled c.in-Some.laid.group) ≡ taken_by records = ap (λ (es : List Entry). length (spelled es)) are.entries ∙ length-laid records in
    subst (λ (gs : List Entry). MayOpenEarly g.D.Disk.is_modelled (g.D.Disk.life (disk_of c.args.self.now)) (staged_of c.args.self.now) gs g.D.Disk.allows) (sym are.entries)
    (c.requires.early honest are.good (omega (arith, fits, size, are.holds, are.releases)))
