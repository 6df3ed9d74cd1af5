use Rattle.std.proofs.Common.{rules, ◌≡◌, List, ℕ, ◌+◌, ◌∙◌, length, ap, subst, sym, arith}
use Rattle.half_store.specs.Writing.{next_of}
use Rattle.checkpoint_writer.specs.Laying.{StandAt}
use Rattle.checkpoint_writer.proofs.Adding.{no_page, same_from}
use Rattle.checkpoint_writer.proofs.Filling.{all_full, last_next, last_stands, no_last}
use Rattle.checkpoint_writer.proofs.rows.RowWriter.finish.Goals as goal

pub returns-then-self-clause-adds : goal.returns-then-self-clause-adds
returns-then-self-clause-adds g c = no_page g.D.Disk.is_modelled (g.D.Disk.life c.args.disk.now) c.args.image.now

pub returns-then-self-clause-stand : goal.returns-then-self-clause-stand
returns-then-self-clause-stand g c start rows held honest =
    let file = (g.D.Disk.life c.args.disk.now).seen in
    subst (λ (l : List (List (List ℕ))). StandAt c.args.self.page.kind file start l) (sym (all_full g.D.Disk.is_modelled file start c.args.image.now c.args.self rows held c.if-self.true)) (held.stand honest)

pub returns-then-self-clause-pages : goal.returns-then-self-clause-pages
returns-then-self-clause-pages g c start rows held =
    omega (arith, held.next, ap length (all_full g.D.Disk.is_modelled (g.D.Disk.life c.args.disk.now).seen start c.args.image.now c.args.self rows held c.if-self.true))

pub returns-clause-stand : goal.returns-clause-stand
returns-clause-stand g c start rows held =
    last_stands g.D.Disk.is_modelled (g.D.Disk.life c.args.disk.now).seen start c.args.image.now c.args.self rows held (g.D.Disk.life c.write_page.new.disk).seen _ c.finish.result.items c.if-self.false
    c.write_page.ensures.adds.others c.finish.ensures.page (λ honest. c.in_ok-write_page.ensures.written honest ∙ c.deref.ensures.value)

pub returns-clause-pages : goal.returns-clause-pages
returns-clause-pages g c start rows held =
    let adds = c.write_page.ensures.adds in
    let after = c.write_page.new.image in
    let next : next_of after ≡ next_of c.args.image.now + 8192 = omega (arith, same_from c.args.image.now after adds.half adds.half_bytes, c.in_ok-write_page.ensures.pages) in
    last_next g.D.Disk.is_modelled (g.D.Disk.life c.args.disk.now).seen start c.args.image.now c.args.self rows held after c.if-self.false next

pub returns-in_err-write_page-clause-full : goal.returns-in_err-write_page-clause-full
returns-in_err-write_page-clause-full g c start rows held =
    no_last g.D.Disk.is_modelled (g.D.Disk.life c.args.disk.now).seen start c.args.image.now c.args.self rows held c.from_residual.result c.in_err-write_page.field-0.0 _ (search rules) c.if-self.false c.in_err-write_page.ensures.full
