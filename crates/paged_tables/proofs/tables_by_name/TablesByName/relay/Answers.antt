-- What is laid anew shows what it did.
use Rattle.std.proofs.Common.{ap, ◌∙◌}
use Rattle.tables.specs.View.{is_store}
use Rattle.paged_tables.specs.TablesByName.{Tables, store_of, tables_in}
use Rattle.paged_tables.proofs.Opened.{store_relaid}
use Rattle.paged_tables.proofs.tables_by_name.TablesByName.relay.Goals as goal

pub invariant_of-self : goal.invariant_of-self
invariant_of-self c = record {
  ordered = c.relay.ensures.ordered;
  good = ap (λ (s : Tables). is_store (store_of s)) c.relay.ensures.laid ∙ ap is_store (store_relaid c.args.pages.items (tables_in c.self.inside.tables.entries)) ∙ c.self.invariant.good;
}

pub returns-clause-store : goal.returns-clause-store
returns-clause-store c = ap store_of c.relay.ensures.laid ∙ store_relaid c.args.pages.items (tables_in c.self.inside.tables.entries) ∙ ap store_of c.self.view_is
