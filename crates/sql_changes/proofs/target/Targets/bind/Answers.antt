use Rattle.std.proofs.Common.{◌≡◌, List, None, Ok, map, rules}
use Rattle.row_values.specs.Value.{Value, value_of}
use Rattle.sql_semantics.specs.Update.{new_target, sum_fault, sum_value}
use Rattle.sql_semantics.specs.Values.{column_place}
use Rattle.sql_changes.specs.Assigned.{places, total}
use Rattle.sql_changes.proofs.Binding.{goes_on}
use Rattle.sql_changes.proofs.target.Targets.bind.Goals as goal

pub assignments-preserved : goal.assignments-preserved
assignments-preserved c =
    let ps = map value_of c.args.params.now in
    let schema = c.args.schema.now in
    let is : new_target schema.key (places c.assignments.targets.items) (column_place schema.columns c.assignment-item.result.column) ≡ Ok c.in_ok-place.place = search rules in
    let fine : sum_fault ps schema.columns c.in_ok-place.place c.assignment-item.result.sum ≡ None = search rules in
    let same : (old : List Value) → total old c.in_ok-sum.sum ≡ sum_value ps schema.columns old c.assignment-item.result.sum = search rules in
    goes_on ps schema.columns schema.key c.args.assignments.now c.assignments.targets.items c.push.new.self.items c.assignments.left.now c.assignment-item.result c.in_ok-place.place c.in_ok-sum.sum
    c.in-len1-up.len_at_least c.assignment-item.is c.in_ok-push.ensures.items is fine same c.assignments.invariant
