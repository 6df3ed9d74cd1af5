-- The rests have the values to come of the two keys, and these are ordered as all of them.
use Rattle.std.proofs.Common.{◌≡◌, drop, Some}
use Rattle.std.specs.Cmp.Lexicographic.{slice_cmp}
use Rattle.row_values.specs.Value.{value_cmp}
use Rattle.row_values.specs.Schema.{key_columns}
use Rattle.row_values.specs.Row.{values_at}
use Rattle.row_values.specs.Key.{key_values}
use Rattle.row_values.proofs.key.compare_keys.Given as goal

abbrev pub invariant-loop-i : goal.invariant-loop-i
invariant-loop-i l = record {
  first : values_at (drop l.i (key_columns l.schema)) l.rest_a ≡ Some (drop l.i (key_values l.schema l.a));
  second : values_at (drop l.i (key_columns l.schema)) l.rest_b ≡ Some (drop l.i (key_values l.schema l.b));
  order : slice_cmp value_cmp (drop l.i (key_values l.schema l.a)) (drop l.i (key_values l.schema l.b)) ≡ slice_cmp value_cmp (key_values l.schema l.a) (key_values l.schema l.b);
}
