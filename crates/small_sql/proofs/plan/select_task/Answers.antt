use Rattle.std.proofs.Common.{map, rules}
use Rattle.std.specs.Option.{option_copied}
use Rattle.row_values.specs.Value.{value_of}
use Rattle.small_sql.proofs.Planning.{places_refused, select_does, select_refused}
use Rattle.small_sql.proofs.plan.select_task.Goals as goal

pub returns-in-Err-Fault-clause-does : goal.returns-in-Err-Fault-clause-does
returns-in-Err-Fault-clause-does c = λ table w.
    places_refused (map value_of c.args.params.now) c.args.schema.now table c.args.columns.now (option_copied c.args.filter)
    c.in-Err-Fault.field-0 _ (search rules) c.in-Err-Fault.ensures.places

pub returns-in-Ok-bind-clause-does : goal.returns-in-Ok-bind-clause-does
returns-in-Ok-bind-clause-does c = λ table w.
    select_does (map value_of c.args.params.now) c.args.schema.now table c.args.columns.now (option_copied c.args.filter)
    c.in-Ok.places.items c.in-Ok.ensures.places c.in-Ok-bind.filter c.in-Ok-bind.ensures.fault c.in-Ok-bind.ensures.meaning

pub returns-in-Err-Fault-bind-clause-does : goal.returns-in-Err-Fault-bind-clause-does
returns-in-Err-Fault-bind-clause-does c = λ table w.
    select_refused (map value_of c.args.params.now) c.args.schema.now table c.args.columns.now (option_copied c.args.filter)
    c.in-Ok.places.items c.in-Ok.ensures.places c.in-Err-Fault-bind.field-0 _ (search rules) c.in-Err-Fault-bind.ensures.fault
