use Rattle.std.proofs.Common.{◌≡◌, ◌≤◌, ◌++◌, length, option_map}
use Rattle.fdoca.specs.Reading.{fields_at}
use Rattle.fdoca.proofs.descriptor.Descriptor.read_fields.Given as goal

abbrev pub invariant-reading : goal.invariant-reading
invariant-reading l = record {
  read : option_map (λ more. l.fields.items ++ more) (fields_at l.left l.rest) ≡ fields_at l.count l.bytes;
  few : length l.fields.items ≤ 128;
  room : 16 ≤ l.fields.capacity;
}

abbrev pub decreases-reading : goal.decreases-reading
decreases-reading l = length l.rest
