use Rattle.std.proofs.Common.{rules, ◌∙◌, ℕ, List, Ok, Err, subst, arith}
use Rattle.drda_disk.proofs.Moments.{Stays-trans}
use Rattle.store_check.specs.Formed.{TellsWhether}
use Rattle.store_check.specs.Half.{HasForm, pages_of}
use Rattle.store_check.proofs.Formed.{all_formed, first_broken, not_told, one_formed}
use Rattle.store_check.proofs.form.first_without_form.Goals as goal

pub returns-in_err-has_form-clause-told : goal.returns-in_err-has_form-clause-told
returns-in_err-has_form-clause-told g c honest =
    let inv = c.loop-page.invariant in
    let file = (g.D.Disk.life c.args.pager.now).seen in
    let half = pages_of c.args.active.now in
    let e = c.in_err-has_form.field-0.0 in
    let told = subst (λ (f : List ℕ). TellsWhether (HasForm f half c.loop-page.page) (Err e)) inv.stays.same (c.in_err-has_form.ensures.told honest) in
    not_told file half (HasForm file half c.loop-page.page) e told c.from_residual.result (search rules)

pub returns-then-not-branch-clause-told : goal.returns-then-not-branch-clause-told
returns-then-not-branch-clause-told g c honest =
    let inv = c.loop-page.invariant in
    let file = (g.D.Disk.life c.args.pager.now).seen in
    let half = pages_of c.args.active.now in
    let b = c.in_ok-has_form.field-0 in
    let told = subst (λ (f : List ℕ). TellsWhether (HasForm f half c.loop-page.page) (Ok b)) inv.stays.same (c.in_ok-has_form.ensures.told honest) in
    first_broken file half c.loop-page.page c.place_of.result b c.loop-page-test.true (inv.formed honest) told (search rules) c.place_of.ensures

pub loop-page-preserved : goal.loop-page-preserved
loop-page-preserved g c =
    let inv = c.loop-page.invariant in
    let file = (g.D.Disk.life c.args.pager.now).seen in
    let half = pages_of c.args.active.now in
    let b = c.in_ok-has_form.field-0 in
    record {
      stays = Stays-trans _ _ _ inv.stays c.has_form.ensures.stays;
      faults = c.in_ok-has_form.ensures.cause ∙ inv.faults;
      formed = λ honest.
          one_formed file half c.loop-page.page b (inv.formed honest)
          (subst (λ (f : List ℕ). TellsWhether (HasForm f half c.loop-page.page) (Ok b)) inv.stays.same (c.in_ok-has_form.ensures.told honest)) (search rules);
    }

pub returns-clause-told : goal.returns-clause-told
returns-clause-told g c honest =
    let inv = c.loop-page.invariant in
    all_formed (g.D.Disk.life c.args.pager.now).seen (pages_of c.args.active.now) c.loop-page.page (inv.formed honest) (omega (arith, c.loop-page-test.false, c.loop-page.auto.page-end))
