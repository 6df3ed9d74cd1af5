use Rattle.paged_tables.proofs.Pages.{and_stay}
use Rattle.paged_tables.proofs.store.PagedTables.release.Goals as goal

pub returns-clause-pages : goal.returns-clause-pages
returns-clause-pages c = and_stay c.args.self.now.tables c.release_all.new.tables c.keep_created.new.self c.release_all.ensures.pages c.keep_created.ensures.pages
