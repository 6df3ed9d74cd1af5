use Rattle.rdb_core.proofs.Pages.{pages_both}
use Rattle.rdb_core.proofs.ending.make_room.Goals as goal

pub returns-in-Err-clause-pages : goal.returns-in-Err-clause-pages
returns-in-Err-clause-pages c = pages_both c.args.tables.now.tables c.reserve.new.self.tables c.release.new.self.tables c.reserve.ensures.pages c.release.ensures.pages
