use Rattle.store_check.specs.Half.{pages_of}
use Rattle.store_check.proofs.Formed.{form_told}
use Rattle.store_check.proofs.form.has_form.Goals as goal

pub returns-then-page-active-clause-told : goal.returns-then-page-active-clause-told
returns-then-page-active-clause-told g c honest =
    form_told (g.D.Disk.life c.args.pager.now).seen (pages_of c.args.active.now) c.args.page c.if-page-active.true c.kind_of.result c.kind_of.ensures c.place_of-at.result c.place_of-at.ensures c.is_formed.result (c.is_formed.ensures.told honest)
