use Rattle.std.proofs.Common.{rules, refl}
use Rattle.table_map.specs.Damage.{HasNoRows}
use Rattle.table_map.proofs.Damaged.{at_front, handed_on}
use Rattle.table_map.proofs.Going.{settled_left}
use Rattle.table_map.proofs.Whole.{page_given}
use Rattle.table_map.proofs.cursor.RowCursor.next_page.Goals as goal

pub returns-in_err-settle-clause-damaged : goal.returns-in_err-settle-clause-damaged
returns-in_err-settle-clause-damaged g c honest =
    let base = c.args.self.now.base in
    handed_on _ _ c.in_err-settle.field-0.0 c.settle.result c.from_residual.result (search rules) (search rules)
    (λ told. at_front HasNoRows _ base.at base.pages told.0 told.1)
    (c.settle.ensures.damaged honest)

pub returns-then-stands_apart-clause-given : goal.returns-then-stands_apart-clause-given
returns-then-stands_apart-clause-given g c left honest held =
    let key_of = g.K.RowKeys.key_of c.args.keys.now in
    let file = (g.D.Disk.life c.args.disk.now).seen in
    let old = c.args.self.now in
    let now = settled_left key_of file old left c.settle.new.self (c.in_ok-settle.ensures.rows honest) held in
    page_given key_of c.changes_and_rows_in_turn.ensures.row file c.args.room (record { base = c.settle.new.self; changes = old.changes }) left now (c.if-stands_apart.ensures refl) c.take_page.result c.take_page.new.self c.take_page.ensures

pub returns-else-stands_apart-clause-given : goal.returns-else-stands_apart-clause-given
returns-else-stands_apart-clause-given g c left honest held =
    settled_left (g.K.RowKeys.key_of c.args.keys.now) (g.D.Disk.life c.args.disk.now).seen c.args.self.now left c.settle.new.self (c.in_ok-settle.ensures.rows honest) held
