use Rattle.paged_tables.proofs.TreeSteps.{pages_written, same_written}
use Rattle.paged_tables.proofs.tree.release.Goals as goal

pub returns-in-Some-clause-store : goal.returns-in-Some-clause-store
returns-in-Some-clause-store c =
    same_written c.args.tables.now.entries c.args.name.now c.in-Some.table.now c.release.new.self (c.get_mut.follows.lender c.release.new.self).entries c.in-Some.ensures.value (c.get_mut.follows.holds c.release.new.self).0 c.release.ensures.shown

pub returns-in-Some-clause-pages : goal.returns-in-Some-clause-pages
returns-in-Some-clause-pages c =
    pages_written c.args.tables.now.entries c.args.name.now c.in-Some.table.now c.release.new.self (c.get_mut.follows.lender c.release.new.self).entries c.in-Some.ensures.value (c.get_mut.follows.holds c.release.new.self).0 c.release.ensures.pages
