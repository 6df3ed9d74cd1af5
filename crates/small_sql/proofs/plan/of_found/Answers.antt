use Rattle.std.proofs.Common.{◌≡◌, map, refl, rules}
use Rattle.std.proofs.lemmas.Result.{IfOk-weaker}
use Rattle.std.specs.Option.{option_copied}
use Rattle.row_values.specs.Value.{value_of}
use Rattle.sql_text.specs.declared.tree.Command.TheVariants as command
use Rattle.small_sql.specs.Scope.{scope_of}
use Rattle.small_sql.proofs.Planning.{create_refused, does_by}
use Rattle.small_sql.proofs.plan.of_found.Goals as goal

pub returns-in-Create-clause-does : goal.returns-in-Create-clause-does
returns-in-Create-clause-does c = rw c.in-Create.is (create_refused _ _ _ _ _)

pub returns-in-Insert-clause-does : goal.returns-in-Insert-clause-does
returns-in-Insert-clause-does c =
    let same : c.args.command.now ≡ command.Insert c.in-Insert.table c.in-Insert.columns c.as_slice.result.now = search rules in
    IfOk-weaker c.of_insert.result _ _
    (λ p does. does_by (map value_of c.args.params.now) c.args.schema.now (scope_of p.scope) c.args.command.now _ same p.task p.task refl (does c.in-Insert.table))
    c.of_insert.ensures.does

pub returns-in_ok-task-in-Update-clause-does : goal.returns-in_ok-task-in-Update-clause-does
returns-in_ok-task-in-Update-clause-does c =
    let same : c.args.command.now ≡ command.Update c.in-Update.table c.as_slice-in-Update.result.now (option_copied c.as_ref-filter.result) = search rules in
    IfOk-weaker c.of_filter.result _ _
    (λ p is. does_by (map value_of c.args.params.now) c.args.schema.now (scope_of p.scope) c.args.command.now _ same p.task c.in_ok-task-in-Update.task is (c.in_ok-task-in-Update.ensures.does c.in-Update.table (scope_of p.scope)))
    c.of_filter.ensures.task

pub returns-in_ok-task-in-Delete-clause-does : goal.returns-in_ok-task-in-Delete-clause-does
returns-in_ok-task-in-Delete-clause-does c =
    let same : c.args.command.now ≡ command.Delete c.in-Delete.table (option_copied c.as_ref-filter-in-Delete.result) = search rules in
    IfOk-weaker c.of_filter-in-Delete.result _ _
    (λ p is. does_by (map value_of c.args.params.now) c.args.schema.now (scope_of p.scope) c.args.command.now _ same p.task c.in_ok-task-in-Delete.task is (c.in_ok-task-in-Delete.ensures.does c.in-Delete.table (scope_of p.scope)))
    c.of_filter-in-Delete.ensures.task

pub returns-in_ok-task-in-Select-clause-does : goal.returns-in_ok-task-in-Select-clause-does
returns-in_ok-task-in-Select-clause-does c =
    let same : c.args.command.now ≡ command.Select c.in-Select.columns c.in-Select.table (option_copied c.as_ref-filter-in-Select.result) = search rules in
    IfOk-weaker c.of_filter-in-Select.result _ _
    (λ p is. does_by (map value_of c.args.params.now) c.args.schema.now (scope_of p.scope) c.args.command.now _ same p.task c.in_ok-task-in-Select.task is (c.in_ok-task-in-Select.ensures.does c.in-Select.table (scope_of p.scope)))
    c.of_filter-in-Select.ensures.task
