use Rattle.std.proofs.Common.{ap, subst, sym, ◌∙◌}
use Rattle.paged_tables.specs.TablesByName.{PagesStay, Tables, created_of, tables_in}
use Rattle.paged_tables.proofs.Pages.{pages_kept}
use Rattle.paged_tables.proofs.tables_by_name.TablesByName.lend.Goals as goal

pub returns-clause-pages : goal.returns-clause-pages
returns-clause-pages c = subst (λ (s : Tables). PagesStay c.args.self.now (created_of s)) (sym (ap tables_in c.iter.ensures.rest ∙ c.self.view_is)) (pages_kept c.args.self.now)
