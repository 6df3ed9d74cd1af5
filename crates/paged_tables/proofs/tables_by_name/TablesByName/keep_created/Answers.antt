-- What is created stays, and nothing else.
use Rattle.std.proofs.Common.{ap, filter, subst, sym, ◌∙◌}
use Rattle.tables.specs.View.{is_store}
use Rattle.paged_tables.specs.TablesByName.{PagesStay, Tables, is_created, store_of, tables_in}
use Rattle.paged_tables.proofs.Pages.{pages_kept}
use Rattle.paged_tables.proofs.TreeSteps.{none_held, store_kept}
use Rattle.paged_tables.proofs.tables_by_name.TablesByName.keep_created.Goals as goal

pub invariant_of-self : goal.invariant_of-self
invariant_of-self c = record {
  ordered = c.keep_created.ensures.ordered;
  good = ap (λ (s : Tables). is_store (store_of s)) c.keep_created.ensures.kept ∙ ap is_store (store_kept (tables_in c.self.inside.tables.entries)) ∙ c.self.invariant.good;
}

pub returns-clause-store : goal.returns-clause-store
returns-clause-store c = ap store_of c.keep_created.ensures.kept ∙ store_kept (tables_in c.self.inside.tables.entries) ∙ ap store_of c.self.view_is

pub returns-clause-pages : goal.returns-clause-pages
returns-clause-pages c =
    subst (λ (s : Tables). PagesStay c.args.self.now s) (sym c.keep_created.ensures.kept)
    (subst (λ (s : Tables). PagesStay s (filter is_created (tables_in c.self.inside.tables.entries))) c.self.view_is (pages_kept (tables_in c.self.inside.tables.entries)))

pub returns-clause-none : goal.returns-clause-none
returns-clause-none c = none_held c.keep_created.new.tables.entries (tables_in c.self.inside.tables.entries) c.keep_created.ensures.ordered c.keep_created.ensures.kept
