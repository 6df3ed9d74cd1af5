-- The table of the name is created in its place.
use Rattle.paged_tables.proofs.TreeSteps.{created_written, grows_written, not_created}
use Rattle.paged_tables.proofs.tree.create.Goals as goal

pub returns-in-Some-clause-store : goal.returns-in-Some-clause-store
returns-in-Some-clause-store c = λ schema ready.
    created_written c.args.tables.now.entries c.args.name.now c.requires schema c.in-Some.table.now c.create.new.self (c.get_mut.follows.lender c.create.new.self).entries c.in-Some.ensures.value (c.get_mut.follows.holds c.create.new.self).0 c.create.ensures.shown ready

pub returns-in-Some-clause-grows : goal.returns-in-Some-clause-grows
returns-in-Some-clause-grows c =
    grows_written c.args.tables.now.entries c.args.name.now c.in-Some.table.now c.create.new.self (c.get_mut.follows.lender c.create.new.self).entries c.in-Some.ensures.value (c.get_mut.follows.holds c.create.new.self).0 c.create.ensures.pages c.create.ensures.room

pub returns-in_default-clause-store : goal.returns-in_default-clause-store
returns-in_default-clause-store c = λ schema ready. not_created c.args.tables.now.entries c.args.name.now c.requires schema c.in_default.ensures.value ready
