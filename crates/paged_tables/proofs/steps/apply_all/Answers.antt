-- The first change that is left has its room.
use Rattle.std.proofs.Common.{map, ap, subst}
use Rattle.tables.specs.Applied.{apply_all}
use Rattle.tables.specs.ChangeView.{change_of}
use Rattle.paged_tables.specs.Stored.{form_in}
use Rattle.paged_tables.specs.TablesByName.{IsReady, store_of}
use Rattle.paged_tables.specs.declared.steps.Step.{Step}
use Rattle.paged_tables.proofs.Pages.{and_stay}
use Rattle.paged_tables.proofs.Reserving.{first_ready, rest_made, rest_ready}
use Rattle.paged_tables.proofs.steps.apply_all.Goals as goal

pub apply-requires : goal.apply-requires
apply-requires c =
    subst (λ (s : Step). IsReady (change_of c.in-Some.change) (form_in s.form) (store_of c.loop-change.tables) c.loop-change.tables) c.index-steps-i.is
    (first_ready (λ (s : Step). form_in s.form) (change_of c.in-Some.change) (map change_of c.next.new.self.rest.items) (map change_of c.loop-change.change-iterator.rest.items) (store_of c.loop-change.tables) c.loop-change.tables c.args.steps.now c.loop-change.i c.index-steps-i.result
    (ap (map change_of) c.in-Some.ensures.steps.0) c.loop-change.invariant.room c.index-steps-i.is)

pub loop-change-preserved : goal.loop-change-preserved
loop-change-preserved c = record {
  can = tt;
  finite = tt;
  room = rest_ready (λ (s : Step). form_in s.form) (change_of c.in-Some.change) (map change_of c.next.new.self.rest.items) (map change_of c.loop-change.change-iterator.rest.items) (store_of c.loop-change.tables) (store_of c.apply.new.self) c.loop-change.tables c.apply.new.self c.args.steps.now c.loop-change.i c.index-steps-i.result
      (ap (map change_of) c.in-Some.ensures.steps.0) c.apply.ensures.store c.apply.ensures.grows c.loop-change.invariant.room c.index-steps-i.is;
  made = rest_made (change_of c.in-Some.change) (map change_of c.next.new.self.rest.items) (map change_of c.loop-change.change-iterator.rest.items) (store_of c.loop-change.tables) (store_of c.apply.new.self) (apply_all (map change_of c.args.changes.items) (store_of c.args.tables.now))
      (ap (map change_of) c.in-Some.ensures.steps.0) c.apply.ensures.store c.loop-change.invariant.made;
  pages = and_stay c.args.tables.now c.loop-change.tables c.apply.new.self c.loop-change.invariant.pages c.apply.ensures.grows.pages;
}
