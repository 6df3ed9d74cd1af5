use Rattle.std.proofs.Common.{rules, ◌≡◌, ◌+◌, ◌∙◌, arith}
use Rattle.half_store.specs.Writing.{next_of}
use Rattle.checkpoint_writer.proofs.Adding.{no_page, same_from}
use Rattle.checkpoint_writer.proofs.Filling.{first_page_key, first_page_laid, next_page_key, next_page_laid, no_next}
use Rattle.checkpoint_writer.proofs.rows.RowWriter.add_page.Goals as goal

pub returns-then-had_none-clause-adds : goal.returns-then-had_none-clause-adds
returns-then-had_none-clause-adds g c = no_page g.D.Disk.is_modelled (g.D.Disk.life c.args.disk.now) c.args.image.now

pub returns-then-had_none-clause-laid : goal.returns-then-had_none-clause-laid
returns-then-had_none-clause-laid g c start rows held =
    first_page_laid g.D.Disk.is_modelled (g.D.Disk.life c.args.disk.now).seen start c.args.image.now c.args.self.now rows held c.args.page.rows c.replace-former.new.self c.if-had_none.true c.requires.begins c.replace-former.ensures.fits c.replace-former.ensures.page

pub returns-then-had_none-clause-first : goal.returns-then-had_none-clause-first
returns-then-had_none-clause-first g c start rows key_of held =
    first_page_key g.D.Disk.is_modelled (g.D.Disk.life c.args.disk.now).seen start c.args.image.now c.args.self.now rows held c.args.page.rows key_of c.if-had_none.true c.requires.begins c.replace-former.ensures.fits

pub returns-clause-laid : goal.returns-clause-laid
returns-clause-laid g c start rows held =
    let adds = c.write_page.ensures.adds in
    let after = c.write_page.new.image in
    let next : next_of after ≡ next_of c.args.image.now + 8192 = omega (arith, same_from c.args.image.now after adds.half adds.half_bytes, c.in_ok-write_page.ensures.pages) in
    next_page_laid g.D.Disk.is_modelled (g.D.Disk.life c.args.disk.now).seen start c.args.image.now c.args.self.now rows held (g.D.Disk.life c.write_page.new.disk).seen _ c.finish.result.items c.args.page.rows after c.replace-former.new.self
    adds.others (rw c.replace-former.ensures.former at c.finish.ensures.page) (λ honest. c.in_ok-write_page.ensures.written honest ∙ c.deref.ensures.value) next c.if-had_none.false c.requires.begins c.replace-former.ensures.fits c.replace-former.ensures.page

pub returns-clause-first : goal.returns-clause-first
returns-clause-first g c start rows key_of held =
    next_page_key g.D.Disk.is_modelled (g.D.Disk.life c.args.disk.now).seen start c.args.image.now c.args.self.now rows held c.args.page.rows key_of c.if-had_none.false c.requires.begins c.replace-former.ensures.fits

pub returns-in_err-write_page-clause-full : goal.returns-in_err-write_page-clause-full
returns-in_err-write_page-clause-full g c start rows rest held =
    no_next g.D.Disk.is_modelled (g.D.Disk.life c.args.disk.now).seen start c.args.image.now c.args.self.now rows held c.from_residual.result c.in_err-write_page.field-0.0 _ c.args.page.rows rest (search rules) c.if-had_none.false c.requires.begins c.replace-former.ensures.fits
    c.in_err-write_page.ensures.full
