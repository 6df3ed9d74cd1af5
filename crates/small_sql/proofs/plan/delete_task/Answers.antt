use Rattle.std.proofs.Common.{map, rules}
use Rattle.std.specs.Option.{option_copied}
use Rattle.row_values.specs.Value.{value_of}
use Rattle.small_sql.proofs.Planning.{delete_does, delete_refused}
use Rattle.small_sql.proofs.plan.delete_task.Goals as goal

pub returns-in-Ok-clause-does : goal.returns-in-Ok-clause-does
returns-in-Ok-clause-does c = λ table w.
    delete_does (map value_of c.args.params.now) c.args.schema.now table (option_copied c.args.filter) c.in-Ok.filter c.in-Ok.ensures.fault c.in-Ok.ensures.meaning

pub returns-in-Err-Fault-clause-does : goal.returns-in-Err-Fault-clause-does
returns-in-Err-Fault-clause-does c = λ table w.
    delete_refused (map value_of c.args.params.now) c.args.schema.now table (option_copied c.args.filter)
    c.in-Err-Fault.field-0 _ (search rules) c.in-Err-Fault.ensures.fault
