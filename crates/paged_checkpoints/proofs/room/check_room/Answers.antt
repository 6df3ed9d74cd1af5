-- What is counted is of the tables that are created.
use Rattle.std.proofs.Common.{rules, ◌≡◌, length, ap, ◌∙◌, arith}
use Rattle.half_store.specs.Layout.{half_len}
use Rattle.row_pages.specs.Laying.{counted}
use Rattle.tables.specs.Tables.{Store}
use Rattle.tables.specs.View.{is_store}
use Rattle.unit_journal.specs.Record.{entries_of}
use Rattle.checkpoint_writer.proofs.Told.{read_on}
use Rattle.store_check.specs.Room.{need_of}
use Rattle.paged_checkpoints.proofs.Begun.{lent_shown}
use Rattle.paged_checkpoints.proofs.room.check_room.Goals as goal

pub most_bytes-requires : goal.most_bytes-requires
most_bytes-requires g c = ap is_store (lent_shown c.args.tables.now.tables c.lend.result c.lend.ensures.tables) ∙ c.lend.ensures.good

pub needed_bytes-requires-clause-tables : goal.needed_bytes-requires-clause-tables
needed_bytes-requires-clause-tables g c = c.lend-2.ensures.pages.inside (length (g.D.Disk.life c.args.disk.now).seen) c.requires.tables

pub needed_bytes-requires-clause-store : goal.needed_bytes-requires-clause-store
needed_bytes-requires-clause-store g c = ap is_store (lent_shown c.args.tables.now.tables c.lend-2.result c.lend-2.ensures.tables) ∙ c.lend-2.ensures.good

pub returns-then-branch-room-clause-full : goal.returns-then-branch-room-clause-full
returns-then-branch-room-clause-full g c honest stand =
    let file = (g.D.Disk.life c.args.disk.now).seen in
    let shown = ap (λ (s : Store). counted (need_of s (entries_of c.args.records.now) c.args.held)) (lent_shown c.args.tables.now.tables c.lend.result c.lend.ensures.tables) in
    let room : c.half_bytes-room.result ≡ half_len (length file) = c.half_bytes-room.ensures.len ∙ ap half_len c.size.ensures in
    omega (arith, c.in_ok-most_bytes.ensures file (c.lend.ensures.pages.stand file stand), shown, room, c.half_bytes-room.ensures.small, c.if-branch-room.true)

pub returns-in_err-need-clause-damaged : goal.returns-in_err-need-clause-damaged
returns-in_err-need-clause-damaged g c honest stand =
    let file = (g.D.Disk.life c.args.disk.now).seen in
    read_on _ _ c.in_err-need.field-0.0 c.needed_bytes.result c.from_residual-in_err-need.result (search rules) (search rules) (λ never. never)
    (c.needed_bytes.ensures.damaged honest (c.lend-2.ensures.pages.stand file stand))

pub returns-then-need-room-clause-full : goal.returns-then-need-room-clause-full
returns-then-need-room-clause-full g c honest stand =
    let file = (g.D.Disk.life c.args.disk.now).seen in
    let shown = ap (λ (s : Store). counted (need_of s (entries_of c.args.records.now) c.args.held)) (lent_shown c.args.tables.now.tables c.lend-2.result c.lend-2.ensures.tables) in
    let need = c.in_ok-need.ensures.need honest (c.lend-2.ensures.pages.stand file stand) ∙ shown in
    let room : c.half_bytes-room.result ≡ half_len (length file) = c.half_bytes-room.ensures.len ∙ ap half_len c.size.ensures in
    (omega (arith, need, room, c.if-need-room.true), need, room)

pub returns-clause-full : goal.returns-clause-full
returns-clause-full g c honest stand =
    let file = (g.D.Disk.life c.args.disk.now).seen in
    let shown = ap (λ (s : Store). counted (need_of s (entries_of c.args.records.now) c.args.held)) (lent_shown c.args.tables.now.tables c.lend-2.result c.lend-2.ensures.tables) in
    let need = c.in_ok-need.ensures.need honest (c.lend-2.ensures.pages.stand file stand) ∙ shown in
    let room : c.half_bytes-room.result ≡ half_len (length file) = c.half_bytes-room.ensures.len ∙ ap half_len c.size.ensures in
    omega (arith, need, room, c.half_bytes-room.ensures.small, c.if-need-room.false)
