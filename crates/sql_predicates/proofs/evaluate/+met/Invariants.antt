-- What is found and what is left are all.
use Rattle.std.proofs.Common.{◌≡◌, map, drop}
use Rattle.row_values.specs.Row.{values_in}
use Rattle.row_values.specs.RowView.{row_in, schema_in}
use Rattle.sql_semantics.specs.Truth.{all_of, any_of, both, either}
use Rattle.sql_predicates.specs.Test.{met}
use Rattle.sql_predicates.proofs.evaluate.+met.Given as goal

abbrev pub invariant-all_of-loop-test : goal.invariant-all_of-loop-test
invariant-all_of-loop-test l =
    let m = met (values_in (schema_in l.row) (row_in l.row)) in both l.found (all_of (map m (drop l.test-index l.tests))) ≡ all_of (map m l.tests)

abbrev pub invariant-any_of-loop-test : goal.invariant-any_of-loop-test
invariant-any_of-loop-test l =
    let m = met (values_in (schema_in l.row) (row_in l.row)) in either l.found (any_of (map m (drop l.test-index l.tests))) ≡ any_of (map m l.tests)
