-- The rows so far that count.
use Rattle.std.proofs.Common.{◌≡◌, filter, take}
use Rattle.row_values.specs.Row.{values_in}
use Rattle.sql_predicates.specs.Test.{passes}
use Rattle.small_sql.proofs.read.counted_of_many.Given as goal

abbrev pub invariant-loop-i : goal.invariant-loop-i
invariant-loop-i l = record {
  schema : l.list.schema ≡ l.fn.list.schema;
  found : l.list ≡ record l.fn.list { rows = filter (λ row. passes l.wanted (values_in l.fn.list.schema row)) (take l.i l.rows) };
}
