use Rattle.std.proofs.Common.{ap}
use Rattle.checkpoint_writer.proofs.Adding.{adds_page}
use Rattle.checkpoint_writer.proofs.page.write_page.Goals as goal

pub returns-in_err-page-clause-adds : goal.returns-in_err-page-clause-adds
returns-in_err-page-clause-adds g c =
    adds_page g.D.Disk.is_modelled (g.D.Disk.life c.args.disk.now) (g.D.Disk.life c.page.new.disk) c.args.image.now c.page.new.self c.page.result c.page.ensures.any_moment c.page.ensures.writing c.page.ensures.others
    (c.page.ensures.goes_on.half, c.page.ensures.goes_on.half_bytes, c.page.ensures.goes_on.generation) c.page.ensures.room.full (λ same. ap (λ d. (g.D.Disk.life d).seen) same) c.page.ensures.room.unwritten c.page.ensures.goes_on.more c.page.ensures.goes_on.still

pub returns-clause-adds : goal.returns-clause-adds
returns-clause-adds g c =
    adds_page g.D.Disk.is_modelled (g.D.Disk.life c.args.disk.now) (g.D.Disk.life c.page.new.disk) c.args.image.now c.page.new.self c.page.result c.page.ensures.any_moment c.page.ensures.writing c.page.ensures.others
    (c.page.ensures.goes_on.half, c.page.ensures.goes_on.half_bytes, c.page.ensures.goes_on.generation) c.page.ensures.room.full (λ same. ap (λ d. (g.D.Disk.life d).seen) same) c.page.ensures.room.unwritten c.page.ensures.goes_on.more c.page.ensures.goes_on.still
