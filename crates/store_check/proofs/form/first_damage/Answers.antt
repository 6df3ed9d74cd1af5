use Rattle.store_check.specs.Half.{pages_of}
use Rattle.store_check.proofs.Formed.{error_told, first_told}
use Rattle.store_check.proofs.form.first_damage.Goals as goal

pub returns-in-Ok-clause-told : goal.returns-in-Ok-clause-told
returns-in-Ok-clause-told g c honest = first_told (g.D.Disk.life c.args.pager.now).seen (pages_of c.args.active.now) c.args.found c.in-Ok.first c.first_of.result (c.in-Ok.ensures.told honest) c.first_of.ensures

pub returns-in-Err-clause-told : goal.returns-in-Err-clause-told
returns-in-Err-clause-told g c honest = error_told (g.D.Disk.life c.args.pager.now).seen (pages_of c.args.active.now) c.args.found c.in-Err.error (c.in-Err.ensures.told honest)
