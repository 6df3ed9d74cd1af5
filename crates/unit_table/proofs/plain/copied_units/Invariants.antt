-- The units so far are copied.
use Rattle.std.proofs.Common.{◌≡◌, map, take}
use Rattle.unit_table.specs.Plain.{held_of}
use Rattle.unit_table.specs.Table.{held}
use Rattle.unit_table.proofs.plain.copied_units.Given as goal

abbrev pub invariant-loop-i : goal.invariant-loop-i
invariant-loop-i l = map held_of l.units.items ≡ held l.claims (take l.i l.entries)
