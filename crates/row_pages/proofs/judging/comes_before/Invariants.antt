-- The values from the place on are in the order of all values of the two keys.
use Rattle.row_values.specs.RowView.{row_in, schema_in}
use Rattle.row_values.proofs.KeyOrder.{OrderedFrom}
use Rattle.row_pages.proofs.Comparing.{keyed}
use Rattle.row_pages.proofs.judging.comes_before.Given as goal

abbrev pub invariant-loop-place : goal.invariant-loop-place
invariant-loop-place l = let schema = schema_in l.second in OrderedFrom (keyed schema (row_in l.first)) (keyed schema (row_in l.second)) l.place-index
