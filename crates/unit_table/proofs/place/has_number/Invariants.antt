use Rattle.std.proofs.Common.{◌≡◌, length}
use Rattle.unit_table.specs.Table.{is_given}
use Rattle.unit_table.proofs.place.has_number.Given as goal

abbrev pub invariant-loop-left : goal.invariant-loop-left
invariant-loop-left l = is_given l.number l.left ≡ is_given l.number l.entries

abbrev pub decreases-loop-left : goal.decreases-loop-left
decreases-loop-left l = length l.left
