use Rattle.std.specs.Borrow.{Bor}
use Rattle.row_pages.specs.Page.{Page}
use Rattle.drda_words.specs.Place.{part}
use Rattle.checkpoint_writer.proofs.ReadEntries.{not_read}
use Rattle.checkpoint_writer.proofs.reading.read_page.Goals as goal

pub returns-in-Ok-clause-told : goal.returns-in-Ok-clause-told
returns-in-Ok-clause-told g c honest = c.push_page.ensures.told (part (g.D.Disk.life c.args.pager.now).seen c.args.at 8192) (c.in-Ok.ensures.page honest)

pub returns-in-Err-clause-told : goal.returns-in-Err-clause-told
returns-in-Err-clause-told g c honest =
    not_read (Bor Page) (Unit {0}) (part (g.D.Disk.life c.args.pager.now).seen c.args.at 8192) c.args.at c.args.tables.now.items c.in-Err.fault (c.in-Err.ensures.damaged honest) c.error_at.result c.error_at.ensures
