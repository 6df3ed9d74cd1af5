use Rattle.std.proofs.Common.{map, option_map, rules}
use Rattle.row_values.specs.Value.{value_of}
use Rattle.sql_changes.specs.Given.{values_given}
use Rattle.small_sql.specs.Scope.{scope_of}
use Rattle.small_sql.proofs.Planning.{insert_does, insert_refused}
use Rattle.small_sql.proofs.plan.of_insert.Goals as goal

pub returns-in_ok-key-in-Ok-clause-does : goal.returns-in_ok-key-in-Ok-clause-does
returns-in_ok-key-in-Ok-clause-does c = λ table.
    insert_does (map value_of c.args.params.now) c.args.schema.now table c.args.columns.now c.args.values.now
    (values_given c.in-Ok.row) c.in-Ok.ensures (option_map (λ k. k.items) c.in_ok-key-in-Ok.key) c.in_ok-key-in-Ok.ensures.key
    (scope_of c.scope_by.result) c.scope_by.ensures

pub returns-in-Err-Fault-clause-does : goal.returns-in-Err-Fault-clause-does
returns-in-Err-Fault-clause-does c = λ table.
    insert_refused (map value_of c.args.params.now) c.args.schema.now table c.args.columns.now c.args.values.now
    c.in-Err-Fault.field-0 _ (search rules) c.in-Err-Fault.ensures
