-- The row is taken out of the table of the name, where there is one.
use Rattle.std.proofs.Common.{ap}
use Rattle.tables.specs.Tables.{remove_row}
use Rattle.paged_tables.specs.Stored.{form_in}
use Rattle.paged_tables.proofs.TreeSteps.{grows_written, none_written, removed_written, room_there}
use Rattle.paged_tables.proofs.tree.remove.Goals as goal

pub remove-requires : goal.remove-requires
remove-requires c = λ here. room_there c.args.tables.now.entries c.args.name.now c.requires.ordered (form_in c.args.form.now) c.in-Some.table.now c.requires.ready c.in-Some.ensures.value here

pub returns-in-Some-clause-store : goal.returns-in-Some-clause-store
returns-in-Some-clause-store c = λ key ready.
    removed_written c.args.tables.now.entries c.args.name.now c.requires.ordered key (form_in c.args.form.now) c.in-Some.table.now c.remove.new.self (c.get_mut.follows.lender c.remove.new.self).entries ready c.in-Some.ensures.value (c.get_mut.follows.holds c.remove.new.self).0
    (c.remove.ensures.shown key) c.remove.ensures.hidden

pub returns-in-Some-clause-grows : goal.returns-in-Some-clause-grows
returns-in-Some-clause-grows c =
    grows_written c.args.tables.now.entries c.args.name.now c.in-Some.table.now c.remove.new.self (c.get_mut.follows.lender c.remove.new.self).entries c.in-Some.ensures.value (c.get_mut.follows.holds c.remove.new.self).0 c.remove.ensures.pages c.remove.ensures.room

pub returns-in_default-clause-store : goal.returns-in_default-clause-store
returns-in_default-clause-store c = λ key ready.
    none_written c.args.tables.now.entries c.args.name.now c.requires.ordered (remove_row key) c.get_mut.follows.lender-at-none.entries c.in_default.ensures.value (ap (λ m. m.entries) c.get_mut.follows.holds-at-none)
