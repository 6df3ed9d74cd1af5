use Rattle.std.proofs.Common.{◌≡◌, ◌++◌, length, map, drop, take, option_map}
use Rattle.row_values.specs.Value.{value_of}
use Rattle.fdoca.specs.Reading.{values_at}
use Rattle.fdoca.proofs.row.read_few.Given as goal

abbrev pub invariant-loop-i : goal.invariant-loop-i
invariant-loop-i l = record {
  read : option_map (λ more. map value_of (take l.i l.few) ++ more) (values_at (drop l.i l.fields) l.rest) ≡ values_at l.fields l.bytes;
  places : length l.few ≡ 16;
}
