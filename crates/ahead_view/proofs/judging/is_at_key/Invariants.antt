-- The values from the place on are to come, and are in the order of all values of the row's key and of the other.
use Rattle.std.proofs.Common.{◌≡◌, drop}
use Rattle.row_values.specs.Key.{key_values}
use Rattle.row_values.specs.KeyValues.{values_left}
use Rattle.row_values.specs.RowView.{row_in, schema_in}
use Rattle.row_values.proofs.KeyOrder.{OrderedFrom}
use Rattle.row_pages.proofs.Comparing.{keyed}
use Rattle.ahead_view.proofs.judging.is_at_key.Given as goal

abbrev pub invariant-loop-place : goal.invariant-loop-place
invariant-loop-place l =
    let schema = schema_in l.row in record {
      left : values_left l.values ≡ drop l.place-index (key_values schema l.key);
      order : OrderedFrom (keyed schema (row_in l.row)) (key_values schema l.key) l.place-index;
    }
