-- The pages go to the tables in turn.
use Rattle.std.proofs.Common.{ap, rules, ◌∙◌}
use Rattle.paged_tables.specs.contracts.tree.fn.relay.retain as closure
use Rattle.paged_tables.specs.TablesByName.{relaid, tables_in}
use Rattle.paged_tables.proofs.Opened.{laid_pairs}
use Rattle.paged_tables.proofs.tree.relay.Goals as goal

pub returns-clause-laid : goal.returns-clause-laid
returns-clause-laid c =
    laid_pairs _ (λ f. (closure.captures f).left.rest.items) (λ f k v b w g t. search rules) _ c.args.tables.now.entries c.retain.new.self.entries c.retain.ensures.filtered
    ∙ ap (λ l. relaid l (tables_in c.args.tables.now.entries)) c.into_iter-left.ensures.rest
