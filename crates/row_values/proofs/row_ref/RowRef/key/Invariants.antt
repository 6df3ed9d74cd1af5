-- The values so far are the key's.
use Rattle.std.proofs.Common.{◌≡◌, map, take, length}
use Rattle.row_values.specs.Value.{value_of}
use Rattle.row_values.specs.Schema.{picked}
use Rattle.row_values.specs.Row.{values_in}
use Rattle.row_values.specs.RowView.{row_in, schema_in}
use Rattle.row_values.proofs.row_ref.RowRef.key.Given as goal

abbrev pub invariant-loop-i : goal.invariant-loop-i
invariant-loop-i l = record {
  room : length l.values ≡ 4;
  gathered : map value_of (take l.i l.values) ≡ take l.i (picked (values_in (schema_in l.self) (row_in l.self)) (schema_in l.self).key);
}
