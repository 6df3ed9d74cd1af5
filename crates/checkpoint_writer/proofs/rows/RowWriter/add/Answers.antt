use Rattle.std.proofs.Common.{◌≡◌, ◌+◌, ◌∙◌, arith}
use Rattle.half_store.specs.Writing.{next_of}
use Rattle.checkpoint_writer.proofs.Adding.{no_page, same_from}
use Rattle.checkpoint_writer.proofs.Filling.{key_there, key_next, next_laid}
use Rattle.checkpoint_writer.proofs.rows.RowWriter.add.Goals as goal

pub returns-in_err-lay-clause-adds : goal.returns-in_err-lay-clause-adds
returns-in_err-lay-clause-adds g c = no_page g.D.Disk.is_modelled (g.D.Disk.life c.args.disk.now) c.args.image.now

pub returns-in-None-clause-adds : goal.returns-in-None-clause-adds
returns-in-None-clause-adds g c = no_page g.D.Disk.is_modelled (g.D.Disk.life c.args.disk.now) c.args.image.now

pub returns-in-None-clause-first : goal.returns-in-None-clause-first
returns-in-None-clause-first g c start rows key_of held =
    let lays = rw c.in-None.is at c.in_ok-lay.ensures.ok in
    key_there g.D.Disk.is_modelled (g.D.Disk.life c.args.disk.now).seen start c.args.image.now c.args.self.now rows held c.args.row.now key_of lays.0

pub returns-in_ok-write_page-in-Some-clause-laid :
    goal.returns-in_ok-write_page-in-Some-clause-laid
returns-in_ok-write_page-in-Some-clause-laid g c start rows held =
    let lays = rw c.in-Some.is at c.in_ok-lay.ensures.ok in
    let adds = c.write_page.ensures.adds in
    let after = c.write_page.new.image in
    let next : next_of after ≡ next_of c.args.image.now + 8192 = omega (arith, same_from c.args.image.now after adds.half adds.half_bytes, c.in_ok-write_page-in-Some.ensures.pages) in
    next_laid g.D.Disk.is_modelled (g.D.Disk.life c.args.disk.now).seen start c.args.image.now c.args.self.now rows held (g.D.Disk.life c.write_page.new.disk).seen _ c.in-Some.full.items c.args.row.now after c.lay.new.self
    adds.others lays.1 (λ honest. c.in_ok-write_page-in-Some.ensures.written honest ∙ c.deref.ensures.value) next c.requires.row lays.0 lays.2

pub returns-in_ok-write_page-in-Some-clause-first :
    goal.returns-in_ok-write_page-in-Some-clause-first
returns-in_ok-write_page-in-Some-clause-first g c start rows key_of held =
    let lays = rw c.in-Some.is at c.in_ok-lay.ensures.ok in
    key_next g.D.Disk.is_modelled (g.D.Disk.life c.args.disk.now).seen start c.args.image.now c.args.self.now rows held c.args.row.now key_of c.requires.row lays.0
