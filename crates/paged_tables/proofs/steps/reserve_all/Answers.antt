-- One change more has its room.
use Rattle.std.proofs.Common.{◌+◌, List, [], refl, sym, subst, map, take, ◌∙◌}
use Rattle.tables.specs.ChangeView.{change_of}
use Rattle.paged_tables.specs.Stored.{form_in}
use Rattle.paged_tables.specs.Steps.{forms_of}
use Rattle.paged_tables.specs.declared.steps.Step.{Step}
use Rattle.paged_tables.specs.TablesByName.{AreReady, store_of}
use Rattle.paged_tables.proofs.Pages.{and_stay, pages_stay_themselves}
use Rattle.paged_tables.proofs.Reserving.{next_known, next_ready, taken_more}
use Rattle.paged_tables.proofs.steps.reserve_all.Goals as goal

pub loop-change-init : goal.loop-change-init
loop-change-init c = record {
  store = refl;
  pages = pages_stay_themselves c.args.tables.now;
  room = subst (λ (l : List Step). AreReady [] (forms_of l) (store_of c.args.tables.now) c.args.tables.now) (sym c.requires.steps) tt;
  known = λ q. sym (c.requires.held q);
}

pub loop-change-preserved : goal.loop-change-preserved
loop-change-preserved c =
    let more = taken_more change_of c.args.changes.now c.loop-change.change-index c.change-item.result c.loop-change-test.true c.change-item.is in
    record {
      store = c.reserve.ensures.store ∙ c.loop-change.invariant.store;
      pages = and_stay c.args.tables.now c.loop-change.tables c.reserve.new.self c.loop-change.invariant.pages c.reserve.ensures.grows.pages;
      room = next_ready (map change_of (take c.loop-change.change-index c.args.changes.now)) (change_of c.change-item.result) (map change_of (take (c.loop-change.change-index + 1) c.args.changes.now)) more (store_of c.args.tables.now) c.loop-change.tables c.reserve.new.self c.loop-change.invariant.known
          (forms_of c.loop-change.steps.items) (forms_of c.push_step.new.steps.items) (form_in c.in_ok-form.form) c.in_ok-push_step.ensures c.loop-change.invariant.room c.reserve.ensures.grows c.in_ok-form.ensures.ready;
      known = next_known (map change_of (take c.loop-change.change-index c.args.changes.now)) (change_of c.change-item.result) (map change_of (take (c.loop-change.change-index + 1) c.args.changes.now)) more (store_of c.args.tables.now) c.loop-change.tables c.reserve.new.self c.loop-change.invariant.known
          c.in_ok-form.ensures.schemas;
    }

pub returns-in_err-form-clause-pages : goal.returns-in_err-form-clause-pages
returns-in_err-form-clause-pages c = and_stay c.args.tables.now c.loop-change.tables c.reserve.new.self c.loop-change.invariant.pages c.reserve.ensures.grows.pages

pub returns-in_err-push_step-clause-pages : goal.returns-in_err-push_step-clause-pages
returns-in_err-push_step-clause-pages c = and_stay c.args.tables.now c.loop-change.tables c.reserve.new.self c.loop-change.invariant.pages c.reserve.ensures.grows.pages
