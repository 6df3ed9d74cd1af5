-- The row is put into the table of the name, where there is one.
use Rattle.std.proofs.Common.{ap}
use Rattle.tables.specs.Tables.{put_row}
use Rattle.paged_tables.specs.Stored.{form_in}
use Rattle.paged_tables.proofs.TreeSteps.{changed_written, form_ready, grows_written, none_written, room_ready}
use Rattle.paged_tables.proofs.tree.put.Goals as goal

pub put-requires-clause-row : goal.put-requires-clause-row
put-requires-clause-row c = λ here. form_ready c.args.tables.now.entries c.args.name.now c.requires.ordered c.args.row.items (form_in c.args.form.now) c.in-Some.table.now c.requires.ready c.in-Some.ensures.value here

pub put-requires-clause-room : goal.put-requires-clause-room
put-requires-clause-room c = λ here. room_ready c.args.tables.now.entries c.args.name.now c.requires.ordered c.args.row.items (form_in c.args.form.now) c.in-Some.table.now c.requires.ready c.in-Some.ensures.value here

pub returns-in-Some-clause-store : goal.returns-in-Some-clause-store
returns-in-Some-clause-store c =
    changed_written c.args.tables.now.entries c.args.name.now c.requires.ordered (put_row c.args.row.items) c.in-Some.table.now c.put.new.self (c.get_mut.follows.lender c.put.new.self).entries c.in-Some.ensures.value (c.get_mut.follows.holds c.put.new.self).0 c.put.ensures.shown

pub returns-in-Some-clause-grows : goal.returns-in-Some-clause-grows
returns-in-Some-clause-grows c =
    grows_written c.args.tables.now.entries c.args.name.now c.in-Some.table.now c.put.new.self (c.get_mut.follows.lender c.put.new.self).entries c.in-Some.ensures.value (c.get_mut.follows.holds c.put.new.self).0 c.put.ensures.pages c.put.ensures.room

pub returns-in_default-clause-store : goal.returns-in_default-clause-store
returns-in_default-clause-store c =
    none_written c.args.tables.now.entries c.args.name.now c.requires.ordered (put_row c.args.row.items) c.get_mut.follows.lender-at-none.entries c.in_default.ensures.value (ap (λ m. m.entries) c.get_mut.follows.holds-at-none)
