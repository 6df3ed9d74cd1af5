-- What was written is the store's, whose active half was read.
use Rattle.std.proofs.Common.{◌≡◌, ◌≤◌, ◌+◌, ℕ, length, true, inl, inr, refl, sym, ◌∙◌, ap, subst}
use Rattle.half_store.specs.Active.{Store}
use Rattle.half_store.specs.declared.header.Layout.TheVariants.{Two}
use Rattle.drda_disk.specs.Disk.{LeavesOnly}
use Rattle.drda_disk.specs.Region.{end_of}
use Rattle.unit_journal.specs.Journal.{held_of, region_of}
use Rattle.unit_journal.specs.Record.{entries_of}
use Rattle.unit_journal.specs.Staged.{journal_of as journal_in}
use Rattle.unit_journal.specs.declared.journal.Journal.{Journal}
use Rattle.half_store.specs.Opened.{store_of}
use Rattle.store_check.specs.Moment.{GoesOn, Moment}
use Rattle.paged_tables.specs.PagedTables.{store_in}
use Rattle.journal_recorder.specs.Checkpointing.{IsSwitched, LacksRoom}
use Rattle.journal_recorder.specs.Recording.{disk_of}
use Rattle.journal_recorder.specs.declared.recorder.DiskRecorder.{DiskRecorder}
use Rattle.journal_recorder.proofs.Switching.{of_store, to_switched}
use Rattle.journal_recorder.proofs.Written.{failed, refused, switched}
use Rattle.journal_recorder.proofs.recorder.DiskRecorder.write_over.Goals as goal

pub returns-in-Ok-clause-told : goal.returns-in-Ok-clause-told
returns-in-Ok-clause-told g c =
    let life = g.D.Disk.life in
    let modelled = g.D.Disk.is_modelled in
    let old = c.args.self.now in
    let base = (life (disk_of old)).seen in
    let disk = life c.write_checkpoint.new.disk in
    let es = entries_of c.args.records.now in
    let hold : ℕ = c.args.held in
    let rows = store_in c.args.tables.now in
    let told = c.in-Ok.ensures in
    let anew : journal_in c.at_rest.result ≡ c.in-Ok.relaid.switched.journal = c.at_rest.ensures.journal in
    let of = of_store modelled life old c.args.active.now c.requires.active c.args.tables.now.tables c.requires.pages c.requires.going in
    record {
      stays = record { size = told.size; rest = c.at_rest.ensures.rest; made = refl };
      moments = of (λ (s : Store). LeavesOnly (life (disk_of old)) disk (Moment base s rows es hold)) told.any_moment;
      switched = of (λ (s : Store). IsSwitched modelled disk base s rows es hold (journal_in c.at_rest.result))
          (λ rests apart. subst (λ (j : Journal). IsSwitched modelled disk base (store_of c.args.active.now) rows es hold j) (sym anew) (to_switched modelled disk base (store_of c.args.active.now) rows es hold c.in-Ok.relaid.switched (told.done rests apart).anew));
      held = ap (λ (j : Journal). held_of j) anew ∙ told.laid.held_back;
      layout = refl;
      inside = subst (λ (j : Journal). end_of (region_of j) ≤ length disk.seen) (sym anew) told.laid.inside;
      faults = told.cause;
      going = c.requires.going;
    }

pub returns-in-Ok-clause-pages : goal.returns-in-Ok-clause-pages
returns-in-Ok-clause-pages g c there =
    let old = c.args.self.now in
    let told = c.in-Ok.ensures in
    let s = c.in-Ok.relaid.switched in
    let new : DiskRecorder g.row.D.Denot = record old { pager = c.write_checkpoint.new.disk; staged = c.at_rest.result; layout = Two } in
    switched g.D.Disk.is_modelled g.D.Disk.life old new c.args.tables.now.tables c.requires.pages told.size c.requires.going c.args.active.now c.requires.active there
    c.relaid.new.self.tables s (store_in c.args.tables.now) (entries_of c.args.records.now) c.args.held c.at_rest.ensures.journal (c.relaid.ensures.inside s.active.region.at told.laid.inside_half) told.laid.front
    (λ from end away. c.relaid.ensures.apart from end (told.laid.apart from end away)) (λ rests apart. (told.done rests apart).anew) (λ rests apart. c.relaid.ensures.stand (g.D.Disk.life c.write_checkpoint.new.disk).seen (told.done rests apart).stand)

pub returns-in-Err-NoMemory-clause-told : goal.returns-in-Err-NoMemory-clause-told
returns-in-Err-NoMemory-clause-told g c =
    let life = g.D.Disk.life in
    let modelled = g.D.Disk.is_modelled in
    let old = c.args.self.now in
    let base = (life (disk_of old)).seen in
    let disk = life c.write_checkpoint.new.disk in
    let told = c.in-Err-NoMemory.ensures in
    let of = of_store modelled life old c.args.active.now c.requires.active c.args.tables.now.tables c.requires.pages c.requires.going in
    record {
      stays = record { size = told.size; rest = c.requires.rest; made = refl };
      moments = of (λ (s : Store). LeavesOnly (life (disk_of old)) disk (Moment base s (store_in c.args.tables.now) (entries_of c.args.records.now) c.args.held)) told.any_moment;
      goes_on = of (λ (s : Store). GoesOn disk base s) (λ rests apart. (rw c.in-Err-NoMemory.field-0-is at told.goes_on) rests);
      journal = refl;
      layout = refl;
      faults = rw c.in-Err-NoMemory.field-0-is at told.cause;
      going = c.requires.going;
    }

pub returns-in-Err-NoMemory-clause-pages : goal.returns-in-Err-NoMemory-clause-pages
returns-in-Err-NoMemory-clause-pages g c there =
    let old = c.args.self.now in
    let told = c.in-Err-NoMemory.ensures in
    let new : DiskRecorder g.row.D.Denot = record old { pager = c.write_checkpoint.new.disk } in
    refused g.D.Disk.is_modelled g.D.Disk.life old new c.args.tables.now.tables c.requires.pages told.size c.requires.going c.args.active.now c.requires.active there refl (rw c.in-Err-NoMemory.field-0-is at told.goes_on)

pub returns-in-Err-Full-clause-told : goal.returns-in-Err-Full-clause-told
returns-in-Err-Full-clause-told g c =
    let life = g.D.Disk.life in
    let modelled = g.D.Disk.is_modelled in
    let old = c.args.self.now in
    let base = (life (disk_of old)).seen in
    let disk = life c.write_checkpoint.new.disk in
    let rows = store_in c.args.tables.now in
    let es = entries_of c.args.records.now in
    let hold : ℕ = c.args.held in
    let told = c.in-Err-Full.ensures in
    let new : DiskRecorder g.row.D.Denot = record old { pager = c.write_checkpoint.new.disk } in
    let of = of_store modelled life old c.args.active.now c.requires.active c.args.tables.now.tables c.requires.pages c.requires.going in (
      record {
        stays = record { size = told.size; rest = c.requires.rest; made = refl };
        moments = of (λ (s : Store). LeavesOnly (life (disk_of old)) disk (Moment base s rows es hold)) told.any_moment;
        goes_on = of (λ (s : Store). GoesOn disk base s) (λ rests apart. (rw c.in-Err-Full.field-0-is at told.goes_on) rests);
        journal = refl;
        layout = refl;
        faults = rw c.in-Err-Full.field-0-is at told.cause;
        going = c.requires.going;
      },
      of (λ (s : Store). LacksRoom modelled life old rows es hold c.in-Err-Full.full.need c.in-Err-Full.full.room new)
          (λ rests apart. let says = (rw c.in-Err-Full.field-0-is at told.told) apart in
          record { less = says.full.0; needed = says.full.1; has = says.full.2; unwritten = says.unwritten }),
    )

pub returns-in-Err-Full-clause-pages : goal.returns-in-Err-Full-clause-pages
returns-in-Err-Full-clause-pages g c there =
    let old = c.args.self.now in
    let told = c.in-Err-Full.ensures in
    let new : DiskRecorder g.row.D.Denot = record old { pager = c.write_checkpoint.new.disk } in
    refused g.D.Disk.is_modelled g.D.Disk.life old new c.args.tables.now.tables c.requires.pages told.size c.requires.going c.args.active.now c.requires.active there refl (rw c.in-Err-Full.field-0-is at told.goes_on)

pub returns-in-Err-DeviceFailed-clause-told : goal.returns-in-Err-DeviceFailed-clause-told
returns-in-Err-DeviceFailed-clause-told g c =
    let life = g.D.Disk.life in
    let old = c.args.self.now in
    let base = (life (disk_of old)).seen in
    let disk = life c.write_checkpoint.new.disk in
    let told = c.in-Err-DeviceFailed.ensures in
    let one : disk.faults ≡ (life (disk_of old)).faults + 1 = rw c.in-Err-DeviceFailed.field-0-is at told.cause in
    record {
      stays = record { size = told.size; rest = c.requires.rest; made = refl };
      moments = of_store g.D.Disk.is_modelled life old c.args.active.now c.requires.active c.args.tables.now.tables c.requires.pages c.requires.going
          (λ (s : Store). LeavesOnly (life (disk_of old)) disk (Moment base s (store_in c.args.tables.now) (entries_of c.args.records.now) c.args.held)) told.any_moment;
      journal = refl;
      layout = refl;
      faults = λ store with. one;
      at_most = inl one;
      failed = refl;
    }

pub returns-in-Err-DeviceFailed-clause-pages : goal.returns-in-Err-DeviceFailed-clause-pages
returns-in-Err-DeviceFailed-clause-pages g c there =
    let old = c.args.self.now in
    let new : DiskRecorder g.row.D.Denot = record old { pager = c.write_checkpoint.new.disk; is_failed = true } in
    failed g.D.Disk.is_modelled g.D.Disk.life old new c.args.tables.now.tables c.requires.pages c.in-Err-DeviceFailed.ensures.size refl refl

pub returns-in-Err-Damaged-clause-told : goal.returns-in-Err-Damaged-clause-told
returns-in-Err-Damaged-clause-told g c =
    let life = g.D.Disk.life in
    let old = c.args.self.now in
    let base = (life (disk_of old)).seen in
    let disk = life c.write_checkpoint.new.disk in
    let told = c.in-Err-Damaged.ensures in
    let of = of_store g.D.Disk.is_modelled life old c.args.active.now c.requires.active c.args.tables.now.tables c.requires.pages c.requires.going in
    record {
      stays = record { size = told.size; rest = c.requires.rest; made = refl };
      moments = of (λ (s : Store). LeavesOnly (life (disk_of old)) disk (Moment base s (store_in c.args.tables.now) (entries_of c.args.records.now) c.args.held)) told.any_moment;
      journal = refl;
      layout = refl;
      faults = of (λ (s : Store). disk.faults ≡ (life (disk_of old)).faults + 1) (λ rests apart. absurd ((rw c.in-Err-Damaged.field-0-is at told.told) apart).damaged);
      at_most = inr (rw c.in-Err-Damaged.field-0-is at told.cause);
      failed = refl;
    }

pub returns-in-Err-Damaged-clause-pages : goal.returns-in-Err-Damaged-clause-pages
returns-in-Err-Damaged-clause-pages g c there =
    let old = c.args.self.now in
    let new : DiskRecorder g.row.D.Denot = record old { pager = c.write_checkpoint.new.disk; is_failed = true } in
    failed g.D.Disk.is_modelled g.D.Disk.life old new c.args.tables.now.tables c.requires.pages c.in-Err-Damaged.ensures.size refl refl
