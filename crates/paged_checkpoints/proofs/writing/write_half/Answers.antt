-- A checkpoint from the beginning of its image to its end.
use Rattle.std.proofs.Common.{rules, ◌∙◌, ℕ, Ok, Err, inl, length, sym, ap, subst}
use Rattle.std.proofs.lemmas.List.{length-map}
use Rattle.drda_disk.proofs.Moments.{weaker}
use Rattle.half_store.specs.Opened.{store_of}
use Rattle.unit_journal.specs.Record.{entries_of}
use Rattle.tables.specs.View.{is_store}
use Rattle.checkpoint_writer.specs.declared.errors.ImageError.TheVariants.{Full}
use Rattle.paged_tables.specs.TablesByName.{LieInside, created_of}
use Rattle.store_check.proofs.Ending.{begun_old, some_half}
use Rattle.paged_checkpoints.specs.Laying.{created_entry}
use Rattle.paged_checkpoints.specs.declared.writing.Relaid.{Relaid}
use Rattle.paged_checkpoints.proofs.Begun.{anew_then, leaves, leaves_synced, lent_shown, readable, room_told, stand_then, still_old}
use Rattle.paged_checkpoints.proofs.Framed.{laid_apart, laid_inside}
use Rattle.paged_checkpoints.proofs.writing.write_half.Goals as goal

pub write_image-requires : goal.write_image-requires
write_image-requires g c = record {
  none = search rules;
  inside = search rules;
  lie = subst (λ (n : ℕ). LieInside n c.lend.result) (sym c.begin_image.ensures.others.size) (c.lend.ensures.pages.inside (length (g.D.Disk.life c.args.disk.now).seen) c.requires.tables);
  store = ap is_store (lent_shown c.args.tables.now.tables c.lend.result c.lend.ensures.tables) ∙ c.lend.ensures.good;
}

pub returns-in_err-image-clause-any_moment : goal.returns-in_err-image-clause-any_moment
returns-in_err-image-clause-any_moment g c rests so =
    let old = (g.D.Disk.life c.args.disk.now).seen in
    weaker (g.D.Disk.life c.args.disk.now) (g.D.Disk.life c.begin_image.new.disk) _ _ (c.begin_image.ensures.any_moment rests.modelled_disk rests.durable rests.active)
    (λ image kept. inl (begun_old old (store_of c.args.active.now) (some_half (length old) c.requires.size) image kept))

pub returns-in-Ok-clause-any_moment : goal.returns-in-Ok-clause-any_moment
returns-in-Ok-clause-any_moment g c rests so =
    let life = g.D.Disk.life in
    leaves g.D.Disk.is_modelled (life c.args.disk.now) (life c.begin_image.new.disk) c.args.active.now c.in_ok-image.image c.args.tables.now.tables c.lend.result
    c.requires.size c.begin_image.ensures.others c.in_ok-image.ensures.half c.lend.ensures.tables
    c.in_ok-image.ensures.begun rests so (life c.write_image.new.disk) (entries_of c.args.records.now) c.args.held c.begin_image.ensures.any_moment c.write_image.ensures.any_moment

pub returns-in-Err-DeviceFailed-clause-any_moment : goal.returns-in-Err-DeviceFailed-clause-any_moment
returns-in-Err-DeviceFailed-clause-any_moment g c rests so =
    let life = g.D.Disk.life in
    leaves g.D.Disk.is_modelled (life c.args.disk.now) (life c.begin_image.new.disk) c.args.active.now c.in_ok-image.image c.args.tables.now.tables c.lend.result
    c.requires.size c.begin_image.ensures.others c.in_ok-image.ensures.half c.lend.ensures.tables
    c.in_ok-image.ensures.begun rests so (life c.write_image.new.disk) (entries_of c.args.records.now) c.args.held c.begin_image.ensures.any_moment c.write_image.ensures.any_moment

pub returns-in_err-sync-in-Err-NoMemory-clause-any_moment : goal.returns-in_err-sync-in-Err-NoMemory-clause-any_moment
returns-in_err-sync-in-Err-NoMemory-clause-any_moment g c rests so =
    let life = g.D.Disk.life in
    leaves_synced g.D.Disk.is_modelled (life c.args.disk.now) (life c.begin_image.new.disk) c.args.active.now c.in_ok-image.image c.args.tables.now.tables c.lend.result
    c.requires.size c.begin_image.ensures.others c.in_ok-image.ensures.half c.lend.ensures.tables
    c.in_ok-image.ensures.begun rests so (life c.write_image.new.disk) (entries_of c.args.records.now) c.args.held c.begin_image.ensures.any_moment c.write_image.ensures.any_moment (life c.sync.new.self) c.sync.ensures.stays

pub returns-in_ok-sync-in-Err-NoMemory-clause-any_moment : goal.returns-in_ok-sync-in-Err-NoMemory-clause-any_moment
returns-in_ok-sync-in-Err-NoMemory-clause-any_moment g c rests so =
    let life = g.D.Disk.life in
    leaves_synced g.D.Disk.is_modelled (life c.args.disk.now) (life c.begin_image.new.disk) c.args.active.now c.in_ok-image.image c.args.tables.now.tables c.lend.result
    c.requires.size c.begin_image.ensures.others c.in_ok-image.ensures.half c.lend.ensures.tables
    c.in_ok-image.ensures.begun rests so (life c.write_image.new.disk) (entries_of c.args.records.now) c.args.held c.begin_image.ensures.any_moment c.write_image.ensures.any_moment (life c.sync.new.self) c.sync.ensures.stays

pub returns-in_err-sync-in-Err-Damaged-clause-any_moment : goal.returns-in_err-sync-in-Err-Damaged-clause-any_moment
returns-in_err-sync-in-Err-Damaged-clause-any_moment g c rests so =
    let life = g.D.Disk.life in
    leaves_synced g.D.Disk.is_modelled (life c.args.disk.now) (life c.begin_image.new.disk) c.args.active.now c.in_ok-image.image c.args.tables.now.tables c.lend.result
    c.requires.size c.begin_image.ensures.others c.in_ok-image.ensures.half c.lend.ensures.tables
    c.in_ok-image.ensures.begun rests so (life c.write_image.new.disk) (entries_of c.args.records.now) c.args.held c.begin_image.ensures.any_moment c.write_image.ensures.any_moment (life c.sync-in-Err-Damaged.new.self) c.sync-in-Err-Damaged.ensures.stays

pub returns-in_ok-sync-in-Err-Damaged-clause-any_moment : goal.returns-in_ok-sync-in-Err-Damaged-clause-any_moment
returns-in_ok-sync-in-Err-Damaged-clause-any_moment g c rests so =
    let life = g.D.Disk.life in
    leaves_synced g.D.Disk.is_modelled (life c.args.disk.now) (life c.begin_image.new.disk) c.args.active.now c.in_ok-image.image c.args.tables.now.tables c.lend.result
    c.requires.size c.begin_image.ensures.others c.in_ok-image.ensures.half c.lend.ensures.tables
    c.in_ok-image.ensures.begun rests so (life c.write_image.new.disk) (entries_of c.args.records.now) c.args.held c.begin_image.ensures.any_moment c.write_image.ensures.any_moment (life c.sync-in-Err-Damaged.new.self) c.sync-in-Err-Damaged.ensures.stays

pub returns-in_err-sync-in-Err-Full-clause-any_moment : goal.returns-in_err-sync-in-Err-Full-clause-any_moment
returns-in_err-sync-in-Err-Full-clause-any_moment g c rests so =
    let life = g.D.Disk.life in
    leaves_synced g.D.Disk.is_modelled (life c.args.disk.now) (life c.begin_image.new.disk) c.args.active.now c.in_ok-image.image c.args.tables.now.tables c.lend.result
    c.requires.size c.begin_image.ensures.others c.in_ok-image.ensures.half c.lend.ensures.tables
    c.in_ok-image.ensures.begun rests so (life c.write_image.new.disk) (entries_of c.args.records.now) c.args.held c.begin_image.ensures.any_moment c.write_image.ensures.any_moment (life c.sync-in-Err-Full.new.self) c.sync-in-Err-Full.ensures.stays

pub returns-in_ok-sync-in-Err-Full-clause-any_moment : goal.returns-in_ok-sync-in-Err-Full-clause-any_moment
returns-in_ok-sync-in-Err-Full-clause-any_moment g c rests so =
    let life = g.D.Disk.life in
    leaves_synced g.D.Disk.is_modelled (life c.args.disk.now) (life c.begin_image.new.disk) c.args.active.now c.in_ok-image.image c.args.tables.now.tables c.lend.result
    c.requires.size c.begin_image.ensures.others c.in_ok-image.ensures.half c.lend.ensures.tables
    c.in_ok-image.ensures.begun rests so (life c.write_image.new.disk) (entries_of c.args.records.now) c.args.held c.begin_image.ensures.any_moment c.write_image.ensures.any_moment (life c.sync-in-Err-Full.new.self) c.sync-in-Err-Full.ensures.stays

pub returns-in-Ok-clause-done : goal.returns-in-Ok-clause-done
returns-in-Ok-clause-done g c rests so =
    let life = g.D.Disk.life in
    record {
      anew = anew_then g.D.Disk.is_modelled (life c.args.disk.now) (life c.begin_image.new.disk) c.args.active.now c.in_ok-image.image c.args.tables.now.tables c.lend.result
          c.requires.size c.begin_image.ensures.others c.in_ok-image.ensures.half c.lend.ensures.tables
          c.in_ok-image.ensures.begun rests so (life c.write_image.new.disk) (entries_of c.args.records.now) c.args.held c.in-Ok.relaid.switched (λ readable base is. (c.in-Ok.ensures.done readable base is).anew);
      stand = stand_then g.D.Disk.is_modelled (life c.args.disk.now) (life c.begin_image.new.disk) c.args.active.now c.in_ok-image.image c.args.tables.now.tables c.lend.result
          c.requires.size c.begin_image.ensures.others c.in_ok-image.ensures.half c.lend.ensures.tables
          c.in_ok-image.ensures.begun rests so (life c.write_image.new.disk).seen c.in-Ok.relaid.pages.items (λ readable base is. (c.in-Ok.ensures.done readable base is).stand);
    }

pub returns-in_ok-sync-in-Err-NoMemory-clause-goes_on : goal.returns-in_ok-sync-in-Err-NoMemory-clause-goes_on
returns-in_ok-sync-in-Err-NoMemory-clause-goes_on g c rests =
    let life = g.D.Disk.life in
    still_old g.D.Disk.is_modelled (life c.args.disk.now) (life c.begin_image.new.disk) c.args.active.now c.in_ok-image.image c.args.tables.now.tables c.lend.result
    c.requires.size c.begin_image.ensures.others c.in_ok-image.ensures.half c.lend.ensures.tables
    c.in_ok-image.ensures.begun rests (life c.write_image.new.disk) (life c.sync.new.self) (rw c.in-Err-NoMemory.field-0-is at c.in-Err-NoMemory.ensures.refused) (g.met.D.Disk.read_is_image c.write_image.new.disk) c.sync.ensures.stays c.in_ok-sync-in-Err-NoMemory.ensures.durable

pub returns-in_ok-sync-in-Err-Damaged-clause-goes_on : goal.returns-in_ok-sync-in-Err-Damaged-clause-goes_on
returns-in_ok-sync-in-Err-Damaged-clause-goes_on g c rests =
    let life = g.D.Disk.life in
    still_old g.D.Disk.is_modelled (life c.args.disk.now) (life c.begin_image.new.disk) c.args.active.now c.in_ok-image.image c.args.tables.now.tables c.lend.result
    c.requires.size c.begin_image.ensures.others c.in_ok-image.ensures.half c.lend.ensures.tables
    c.in_ok-image.ensures.begun rests (life c.write_image.new.disk) (life c.sync-in-Err-Damaged.new.self) (rw c.in-Err-Damaged.field-0-is at c.in-Err-Damaged.ensures.refused) (g.met.D.Disk.read_is_image c.write_image.new.disk) c.sync-in-Err-Damaged.ensures.stays c.in_ok-sync-in-Err-Damaged.ensures.durable

pub returns-in_ok-sync-in-Err-Full-clause-goes_on : goal.returns-in_ok-sync-in-Err-Full-clause-goes_on
returns-in_ok-sync-in-Err-Full-clause-goes_on g c rests =
    let life = g.D.Disk.life in
    still_old g.D.Disk.is_modelled (life c.args.disk.now) (life c.begin_image.new.disk) c.args.active.now c.in_ok-image.image c.args.tables.now.tables c.lend.result
    c.requires.size c.begin_image.ensures.others c.in_ok-image.ensures.half c.lend.ensures.tables
    c.in_ok-image.ensures.begun rests (life c.write_image.new.disk) (life c.sync-in-Err-Full.new.self) (rw c.in-Err-Full.field-0-is at c.in-Err-Full.ensures.refused) (g.met.D.Disk.read_is_image c.write_image.new.disk) c.sync-in-Err-Full.ensures.stays c.in_ok-sync-in-Err-Full.ensures.durable

pub returns-in-Ok-clause-laid : goal.returns-in-Ok-clause-laid
returns-in-Ok-clause-laid g c =
    let laid = c.in-Ok.ensures.laid in
    let active = c.in-Ok.relaid.switched.active in
    let pages = c.in-Ok.relaid.pages.items in
    let tables = c.args.tables.now.tables in
    let many = laid.count ∙ ap length c.lend.ensures.tables in
    record {
      count = laid.count ∙ sym (length-map c.lend.result created_entry) ∙ ap length (lent_shown tables c.lend.result c.lend.ensures.tables);
      inside_half = laid_inside active laid.pages pages (created_of tables) many laid.among;
      apart = laid_apart active laid.pages pages (created_of tables) many laid.among;
      among = laid.among;
      pages = laid.pages;
      front = search rules;
      held_back = laid.held_back;
      inside = search rules;
    }

pub returns-in-Ok-clause-told : goal.returns-in-Ok-clause-told
returns-in-Ok-clause-told g c so =
    let life = g.D.Disk.life in
    record {
      full = room_told g.D.Disk.is_modelled (life c.args.disk.now) (life c.begin_image.new.disk) c.args.active.now c.in_ok-image.image c.args.tables.now.tables c.lend.result
          c.requires.size c.begin_image.ensures.others c.in_ok-image.ensures.half c.lend.ensures.tables
          (Ok c.in-Ok.relaid) (entries_of c.args.records.now) c.args.held (λ readable. (c.in-Ok.ensures.told readable).full) so;
      damaged = tt;
    }

pub returns-in_ok-sync-in-Err-Damaged-clause-told : goal.returns-in_ok-sync-in-Err-Damaged-clause-told
returns-in_ok-sync-in-Err-Damaged-clause-told g c so =
    let life = g.D.Disk.life in
    record {
      full = tt;
      damaged = ((rw c.in-Err-Damaged.field-0-is at c.in-Err-Damaged.ensures.told)
          (readable g.D.Disk.is_modelled (life c.args.disk.now) (life c.begin_image.new.disk) c.args.active.now c.in_ok-image.image c.args.tables.now.tables c.lend.result
          c.requires.size c.begin_image.ensures.others c.in_ok-image.ensures.half c.lend.ensures.tables so)).damaged;
    }

pub returns-in_ok-sync-in-Err-Full-clause-told : goal.returns-in_ok-sync-in-Err-Full-clause-told
returns-in_ok-sync-in-Err-Full-clause-told g c so =
    let life = g.D.Disk.life in
    record {
      full = room_told g.D.Disk.is_modelled (life c.args.disk.now) (life c.begin_image.new.disk) c.args.active.now c.in_ok-image.image c.args.tables.now.tables c.lend.result
          c.requires.size c.begin_image.ensures.others c.in_ok-image.ensures.half c.lend.ensures.tables
          {T = Relaid} (Err (Full c.in-Err-Full.full)) (entries_of c.args.records.now) c.args.held (λ readable. ((rw c.in-Err-Full.field-0-is at c.in-Err-Full.ensures.told) readable).full) so;
      damaged = tt;
    }
