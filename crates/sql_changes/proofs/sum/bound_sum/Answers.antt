use Rattle.std.proofs.Common.{false, map, rules, sym, true}
use Rattle.row_values.specs.Column.{column_of}
use Rattle.row_values.specs.Value.{value_of}
use Rattle.sql_changes.proofs.Sums.{judged}
use Rattle.sql_changes.proofs.sum.bound_sum.Goals as goal

pub returns-then-not-takes_sum-clause-fault : goal.returns-then-not-takes_sum-clause-fault
returns-then-not-takes_sum-clause-fault c =
    judged (map value_of c.args.params.now) (map column_of c.args.columns.now) c.args.place c.args.sum.now c.as_slice-addends.result.now c.in_ok-class.class c.in_ok-first.first_class _ c.in_ok-rest.are_numbers false
    c.as_slice-addends.ensures c.in_ok-first.ensures.class (sym c.in_ok-class.ensures) c.in_ok-rest.ensures.names c.in_ok-rest.ensures.classes c.is_empty.ensures (search rules)

pub returns-clause-fault : goal.returns-clause-fault
returns-clause-fault c =
    judged (map value_of c.args.params.now) (map column_of c.args.columns.now) c.args.place c.args.sum.now c.as_slice-addends.result.now c.in_ok-class.class c.in_ok-first.first_class _ c.in_ok-rest.are_numbers true
    c.as_slice-addends.ensures c.in_ok-first.ensures.class (sym c.in_ok-class.ensures) c.in_ok-rest.ensures.names c.in_ok-rest.ensures.classes c.is_empty.ensures (search rules)
