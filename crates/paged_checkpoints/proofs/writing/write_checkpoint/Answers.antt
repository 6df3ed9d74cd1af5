-- There was room for it, or nothing was written.
use Rattle.std.proofs.Common.{rules, ℕ, List, length, subst}
use Rattle.std.proofs.lemmas.Result.{IfOk-weaker}
use Rattle.drda_disk.specs.Disk.{Stays}
use Rattle.half_store.specs.Layout.{half_len}
use Rattle.half_store.specs.Opened.{store_of}
use Rattle.unit_journal.specs.Record.{entries_of}
use Rattle.store_check.specs.Moment.{IsAnew}
use Rattle.store_check.specs.Room.{need_of}
use Rattle.paged_tables.specs.PagedTables.{store_in}
use Rattle.paged_checkpoints.specs.Written.{TellsWriting}
use Rattle.paged_checkpoints.proofs.Counted.{apart_still, leaves_then, rests_still, told_before, told_then}
use Rattle.paged_checkpoints.proofs.writing.write_checkpoint.Goals as goal

pub returns-in_err-check_room-clause-told : goal.returns-in_err-check_room-clause-told
returns-in_err-check_room-clause-told g c so =
    let old = g.D.Disk.life c.args.disk.now in
    let need = need_of (store_in c.args.tables.now) (entries_of c.args.records.now) c.args.held in
    told_before c.in_err-check_room.field-0.0 c.from_residual.result need (half_len (length old.seen)) (Stays old (g.D.Disk.life c.check_room.new.disk)) (search rules) c.check_room.ensures.stays
    (c.in_err-check_room.ensures.full so.modelled_disk so.stand) (c.in_err-check_room.ensures.damaged so.modelled_disk so.stand)

pub returns-clause-any_moment : goal.returns-clause-any_moment
returns-clause-any_moment g c rests so =
    let modelled = g.D.Disk.is_modelled in
    let old = g.D.Disk.life c.args.disk.now in
    let mid = g.D.Disk.life c.check_room.new.disk in
    let stays = c.check_room.ensures.stays in
    let store = store_of c.args.active.now in
    leaves_then modelled old mid stays store rests (store_in c.args.tables.now) (entries_of c.args.records.now) c.args.held (g.D.Disk.life c.write_half.new.disk)
    (c.write_half.ensures.any_moment (rests_still modelled old mid stays store rests) (apart_still modelled old mid stays store c.args.tables.now.tables so))

pub returns-clause-done : goal.returns-clause-done
returns-clause-done g c =
    let modelled = g.D.Disk.is_modelled in
    let old = g.D.Disk.life c.args.disk.now in
    let mid = g.D.Disk.life c.check_room.new.disk in
    let stays = c.check_room.ensures.stays in
    let store = store_of c.args.active.now in
    IfOk-weaker c.write_half.result _ _
    (λ r is rests so.
    let all = is (rests_still modelled old mid stays store rests) (apart_still modelled old mid stays store c.args.tables.now.tables so) in
    record {
      anew = subst (λ (base : List ℕ). IsAnew modelled (g.D.Disk.life c.write_half.new.disk) base store (store_in c.args.tables.now) (entries_of c.args.records.now) c.args.held r.switched) stays.same all.anew;
      stand = all.stand;
    })
    c.write_half.ensures.done

pub returns-clause-told : goal.returns-clause-told
returns-clause-told g c so =
    let modelled = g.D.Disk.is_modelled in
    let old = g.D.Disk.life c.args.disk.now in
    let mid = g.D.Disk.life c.check_room.new.disk in
    let stays = c.check_room.ensures.stays in
    let need = need_of (store_in c.args.tables.now) (entries_of c.args.records.now) c.args.held in
    told_then c.write_half.result need (half_len (length old.seen)) (Stays old (g.D.Disk.life c.write_half.new.disk)) (c.in_ok-check_room.ensures.full so.modelled_disk so.stand)
    (subst (λ (image : List ℕ). TellsWriting c.write_half.result need (half_len (length image))) stays.same (c.write_half.ensures.told (apart_still modelled old mid stays (store_of c.args.active.now) c.args.tables.now.tables so)))
