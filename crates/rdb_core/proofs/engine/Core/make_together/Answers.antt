use Rattle.rdb_core.proofs.Pages.{pages_both}
use Rattle.rdb_core.proofs.engine.Core.make_together.Goals as goal

pub returns-in_err-finish_all-clause-pages : goal.returns-in_err-finish_all-clause-pages
returns-in_err-finish_all-clause-pages g c = pages_both c.args.self.now.base.tables.tables c.make_room.new.tables.tables c.finish_all.new.base.tables.tables c.make_room.ensures.pages c.finish_all.ensures.pages

pub returns-clause-pages : goal.returns-clause-pages
returns-clause-pages g c = pages_both c.args.self.now.base.tables.tables c.make_room.new.tables.tables c.finish_all.new.base.tables.tables c.make_room.ensures.pages c.finish_all.ensures.pages
