use Rattle.paged_tables.specs.Stored.{opened}
use Rattle.paged_tables.proofs.Opened.{then_added}
use Rattle.paged_tables.proofs.store.PagedTables.add.Goals as goal

pub returns-clause-pages : goal.returns-clause-pages
returns-clause-pages c = then_added c.args.self.now.tables c.release.new.self.tables (opened c.args.schema c.args.pages.pages c.args.pages.rows.listed.value) c.add.new.self c.release.ensures.pages c.add.ensures.pages
