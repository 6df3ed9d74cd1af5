use Rattle.std.proofs.Common.{rules, ◌≡◌, ◌+◌, ◌≤◌, List, [], ◌∷◌, ◌++◌, length, ◌∙◌, ap, subst, arith, refl}
use Rattle.drda_disk.specs.Disk.{LeavesOnly}
use Rattle.unit_journal.specs.Journal.{region_of, room_of}
use Rattle.unit_journal.specs.Record.{Entry, laid as spelled}
use Rattle.unit_journal.specs.Staged.{IsUnderWay}
use Rattle.unit_journal.specs.Stands.{IsBeforeOrAfterAll}
use Rattle.unit_records.specs.MadeRecords.{with_begun, with_done}
use Rattle.unit_records.specs.Room.{taken_by}
use Rattle.journal_recorder.specs.Recording.{disk_of, journal_of, made_of}
use Rattle.journal_recorder.proofs.Together.{length-laid}
use Rattle.journal_recorder.proofs.recorder.DiskRecorder.append_all.Goals as goal

pub returns-in-Ok-clause-ok : goal.returns-in-Ok-clause-ok
returns-in-Ok-clause-ok g c records are =
    let life = g.D.Disk.life in
    let old = c.args.self.now in
    let told = c.in-Ok.ensures in
    let size : length (spelled c.args.laid.now.group) ≡ taken_by records = ap (λ (es : List Entry). length (spelled es)) are.entries ∙ length-laid records in
    record {
      good = are.good;
      settled = λ es is. subst (λ (gs : List Entry). IsUnderWay g.D.Disk.is_modelled (life c.append_group.new.disk) c.append_group.new.self (es ++ gs)) are.entries (told.adds.ok es is);
      moments = λ es is. subst (λ (gs : List Entry). LeavesOnly (life (disk_of old)) (life c.append_group.new.disk) (IsBeforeOrAfterAll (region_of (journal_of old)) (life (disk_of old)).seen es gs)) are.entries (told.adds.any_moment es is);
      others = told.adds.others;
      region = told.adds.takes.region;
      layout = refl;
      room = omega (arith, told.adds.takes.room, size, are.holds, are.releases);
      held = omega (arith, told.adds.takes.held, are.holds, are.releases);
      was_going = c.requires.going;
      faults = told.adds.cause;
      going = c.requires.going;
      made = c.note_all.ensures ∙ ap (λ (gs : List Entry). with_done (made_of old) (gs ∷ [])) are.entries;
    }

pub returns-in-Err-DeviceFailed-clause-err : goal.returns-in-Err-DeviceFailed-clause-err
returns-in-Err-DeviceFailed-clause-err g c records are =
    let life = g.D.Disk.life in
    let old = c.args.self.now in
    let told = c.in-Err-DeviceFailed.ensures in
    let size : length (spelled c.args.laid.now.group) ≡ taken_by records = ap (λ (es : List Entry). length (spelled es)) are.entries ∙ length-laid records in
    let full : length (spelled c.args.laid.now.group) + c.args.laid.now.hold ≤ room_of (journal_of old) + c.args.laid.now.release = search rules in
    let cause : (life c.append_group.new.disk).faults ≡ (life (disk_of old)).faults + 1 = search rules in
    record {
      good = are.good;
      fits = omega (arith, full, size, are.holds, are.releases);
      moments = λ es is. subst (λ (gs : List Entry). LeavesOnly (life (disk_of old)) (life c.append_group.new.disk) (IsBeforeOrAfterAll (region_of (journal_of old)) (life (disk_of old)).seen es gs)) are.entries (told.adds.any_moment es is);
      others = told.adds.others;
      journal = told.same;
      layout = refl;
      faults = cause;
      failed = refl;
      begun = c.leave_all_open.ensures ∙ ap (λ (gs : List Entry). with_begun (made_of old) (gs ∷ [])) are.entries;
    }
