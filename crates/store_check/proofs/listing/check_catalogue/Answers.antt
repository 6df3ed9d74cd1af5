use Rattle.std.proofs.Common.{rules, ◌+◌, ◌*◌, ◌∙◌, ℕ, List, Ok, Err, subst, arith}
use Rattle.drda_words.specs.Place.{part}
use Rattle.drda_disk.proofs.Moments.{Stays-trans}
use Rattle.store_check.specs.Judging.{JudgesEntries}
use Rattle.store_check.proofs.Listed.{all_found, one_found, stopped}
use Rattle.store_check.proofs.listing.check_catalogue.Goals as goal

pub returns-in_err-add_page-clause-told : goal.returns-in_err-add_page-clause-told
returns-in_err-add_page-clause-told g c honest =
    let inv = c.loop-page.invariant in
    let file = (g.D.Disk.life c.args.pager.now).seen in
    let here = c.args.at + 8192 * c.loop-page.page in
    let e = c.in_err-add_page.field-0.0 in
    let told = subst (λ (f : List ℕ). JudgesEntries {T = Unit {0}} (part f here 8192) here c.args.last c.loop-page.tables.items (Err e) c.add_page.new.tables.items) inv.stays.same (c.in_err-add_page.ensures.told honest) in
    stopped file c.args.at c.args.last (Unit {0}) c.loop-page.page c.args.count c.loop-page.tables.items c.add_page.new.tables.items e c.loop-page-test.true (inv.found honest) inv.listed told c.from_residual.result (search rules)

pub loop-page-preserved : goal.loop-page-preserved
loop-page-preserved g c =
    let inv = c.loop-page.invariant in
    let file = (g.D.Disk.life c.args.pager.now).seen in
    let here = c.args.at + 8192 * c.loop-page.page in
    record {
      stays = Stays-trans _ _ _ inv.stays c.add_page.ensures.stays;
      faults = c.in_ok-add_page.ensures.cause ∙ inv.faults;
      listed = c.in_ok-add_page.ensures.listed;
      found = λ honest.
          one_found file c.args.at c.args.last {T = Unit {0}} tt c.loop-page.page c.loop-page.tables.items c.add_page.new.tables.items (inv.found honest)
          (subst (λ (f : List ℕ). JudgesEntries {T = Unit {0}} (part f here 8192) here c.args.last c.loop-page.tables.items (Ok tt) c.add_page.new.tables.items) inv.stays.same (c.in_ok-add_page.ensures.told honest));
    }

pub returns-clause-told : goal.returns-clause-told
returns-clause-told g c honest =
    let inv = c.loop-page.invariant in
    all_found (g.D.Disk.life c.args.pager.now).seen c.args.at c.args.last c.loop-page.page c.args.count c.loop-page.tables (omega (arith, c.loop-page-test.false, c.loop-page.auto.page-end)) (inv.found honest) inv.listed
