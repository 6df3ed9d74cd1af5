-- What is given up at one step changes no table.
use Rattle.std.proofs.Common.{refl, ◌∙◌}
use Rattle.paged_tables.proofs.Pages.{and_stay, pages_stay_themselves}
use Rattle.paged_tables.proofs.steps.release_all.Goals as goal

pub loop-step-init : goal.loop-step-init
loop-step-init c = record { same = refl; pages = pages_stay_themselves c.args.tables.now }

pub loop-step-preserved : goal.loop-step-preserved
loop-step-preserved c = record {
  same = c.release_one.ensures.tables ∙ c.loop-step.invariant.same;
  pages = and_stay c.args.tables.now c.loop-step.tables c.release_one.new.tables c.loop-step.invariant.pages c.release_one.ensures.pages;
}
