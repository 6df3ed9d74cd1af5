use Rattle.std.proofs.Common.{◌≡◌, ◌++◌, map, drop, option_map}
use Rattle.row_values.specs.Value.{value_of}
use Rattle.fdoca.specs.Reading.{values_at}
use Rattle.fdoca.proofs.row.read_many.Given as goal

abbrev pub invariant-loop-i : goal.invariant-loop-i
invariant-loop-i l = option_map (λ more. map value_of l.many.items ++ more) (values_at (drop l.i l.fields) l.rest) ≡ values_at l.fields l.bytes
