use Rattle.rdb_core.proofs.Pages.{pages_both}
use Rattle.rdb_core.proofs.ending.commit_decided.Goals as goal

pub returns-clause-pages : goal.returns-clause-pages
returns-clause-pages g c = pages_both c.args.base.now.tables.tables c.make_room.new.tables.tables c.finish.new.base.tables.tables c.make_room.ensures.pages c.finish.ensures.pages
