use Rattle.std.proofs.Common.{ap, rules, ◌∙◌}
use Rattle.std.proofs.lemmas.Map.Made.{filter_same_pairs}
use Rattle.paged_tables.specs.TablesByName.{tables_in}
use Rattle.paged_tables.proofs.NamedTables.{Entry}
use Rattle.paged_tables.proofs.TreeSteps.{kept_entries}
use Rattle.paged_tables.proofs.tree.keep_created.Goals as goal

pub returns-clause-kept : goal.returns-clause-kept
returns-clause-kept c =
    ap tables_in (filter_same_pairs _ (λ (e : Entry). e.1.is_created) _ (λ k v b w f' t. search rules) c.args.tables.now.entries c.retain.new.self.entries c.retain.ensures.filtered)
    ∙ kept_entries c.args.tables.now.entries
