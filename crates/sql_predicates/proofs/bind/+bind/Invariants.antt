-- The parts so far are bound, and none of them is at fault.
use Rattle.std.proofs.Common.{◌≡◌, List, map, drop, take}
use Rattle.row_values.specs.Column.{column_of}
use Rattle.row_values.specs.Value.{Value, value_of}
use Rattle.sql_semantics.specs.Checked.{first_fault}
use Rattle.sql_semantics.specs.Classes.{predicate_fault}
use Rattle.sql_semantics.specs.Truth.{truth}
use Rattle.sql_predicates.specs.Test.{met}
use Rattle.sql_predicates.proofs.bind.+bind.Given as goal

abbrev pub invariant-parts_bound-loop-part : goal.invariant-parts_bound-loop-part
invariant-parts_bound-loop-part l = record {
  fault : first_fault (map (predicate_fault (map value_of l.params) (map column_of l.columns)) (drop l.part-index l.parts)) ≡ first_fault (map (predicate_fault (map value_of l.params) (map column_of l.columns)) l.parts);
  meaning : (values : List Value) → map (met values) l.tests ≡ map (truth (map value_of l.params) (map column_of l.columns) values) (take l.part-index l.parts);
}
