use Rattle.paged_tables.proofs.Pages.{and_stay}
use Rattle.paged_tables.proofs.store.PagedTables.reserve.Goals as goal

pub returns-clause-pages : goal.returns-clause-pages
returns-clause-pages c = and_stay c.args.self.now.tables c.release.new.self.tables c.reserve_all.new.tables c.release.ensures.pages c.reserve_all.ensures.pages
