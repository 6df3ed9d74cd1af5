use Rattle.std.proofs.Common.{sym, ◌∙◌}
use Rattle.paged_tables.proofs.TreeSteps.{created_seen, found, hidden_seen, none, none_seen}
use Rattle.paged_tables.proofs.tables_by_name.created_in.Goals as goal

pub returns-then-is_created-clause-found : goal.returns-then-is_created-clause-found
returns-then-is_created-clause-found c =
    created_seen c.args.tables.now.entries c.args.name.now c.requires c.in-Some.table.now (sym (found c.args.tables.now.entries c.args.name.now c.in-Some.table.now c.in-Some.ensures.value)) (sym c.is_created.ensures ∙ c.if-is_created.true)

pub returns-then-is_created-clause-here : goal.returns-then-is_created-clause-here
returns-then-is_created-clause-here c = found c.args.tables.now.entries c.args.name.now c.in-Some.table.now c.in-Some.ensures.value

pub returns-else-is_created-clause-found : goal.returns-else-is_created-clause-found
returns-else-is_created-clause-found c =
    hidden_seen c.args.tables.now.entries c.args.name.now c.requires c.in-Some.table.now (sym (found c.args.tables.now.entries c.args.name.now c.in-Some.table.now c.in-Some.ensures.value)) (sym c.is_created.ensures ∙ c.if-is_created.false)

pub returns-in-None-clause-found : goal.returns-in-None-clause-found
returns-in-None-clause-found c = none_seen c.args.tables.now.entries c.args.name.now c.requires (sym (none c.args.tables.now.entries c.args.name.now c.in-None.ensures.value))
