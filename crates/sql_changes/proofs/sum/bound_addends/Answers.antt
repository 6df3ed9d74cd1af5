use Rattle.std.proofs.Common.{map}
use Rattle.row_values.specs.Column.{column_of}
use Rattle.row_values.specs.Value.{value_of}
use Rattle.sql_changes.proofs.Sums.{classes_step, means_step, names_step}
use Rattle.sql_changes.proofs.sum.bound_addends.Goals as goal

pub addends-preserved : goal.addends-preserved
addends-preserved c =
    let ps = map value_of c.args.params.now in
    let cs = map column_of c.args.columns.now in
    record {
      names = names_step ps cs c.addends.left.now c.addend-item.result c.in_ok-operand.class _ c.in-len1-up.len_at_least c.addend-item.is c.in_ok-operand.ensures.class c.addends.invariant.names;
      classes = classes_step ps cs c.addends.left.now c.addend-item.result c.in_ok-operand.class c.addends.are_numbers c.are_numbers_with-are_numbers.result _ c.in-len1-up.len_at_least c.addend-item.is c.in_ok-operand.ensures.class c.are_numbers_with-are_numbers.ensures c.addends.invariant.classes;
      meaning = means_step ps cs c.addends.bound.items c.push.new.self.items c.addends.left.now c.args.addends.now c.addend-item.result c.in_ok-operand.operand c.in-len1-up.len_at_least c.addend-item.is c.in_ok-push.ensures.items c.in_ok-operand.ensures.value c.addends.invariant.meaning;
    }
