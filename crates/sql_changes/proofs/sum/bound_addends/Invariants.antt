-- The addends so far are bound, and none of their names is at fault.
use Rattle.std.proofs.Common.{◌≡◌, List, length, map, Some}
use Rattle.std.specs.Prelude.{if◌then◌else◌}
use Rattle.core_calls.specs.declared.sql_fault.SqlFault.TheVariants as fault
use Rattle.row_values.specs.Column.{column_of}
use Rattle.row_values.specs.Value.{Value, value_of}
use Rattle.sql_semantics.specs.Checked.{and_then}
use Rattle.sql_semantics.specs.Update as update
use Rattle.sql_changes.specs.Assigned.{summed_from}
use Rattle.sql_changes.specs.Faults.{addend_terms, classes_fault, names_fault}
use Rattle.sql_changes.proofs.sum.bound_addends.Given as goal

abbrev pub invariant-addends : goal.invariant-addends
invariant-addends l = record {
  names : names_fault (map value_of l.params) (map column_of l.columns) (addend_terms l.left) ≡ names_fault (map value_of l.params) (map column_of l.columns) (addend_terms l.addends);
  classes : (if l.are_numbers then classes_fault (map value_of l.params) (map column_of l.columns) (addend_terms l.left) else Some fault.TypeMismatch) ≡ classes_fault (map value_of l.params) (map column_of l.columns) (addend_terms l.addends);
  meaning : (old : List Value) (v : Value) → and_then (summed_from old v l.bound.items) (λ w. update.sum_from (map value_of l.params) (map column_of l.columns) old w l.left) ≡ update.sum_from (map value_of l.params) (map column_of l.columns) old v l.addends;
}

abbrev pub decreases-addends : goal.decreases-addends
decreases-addends l = length l.left
