-- The bytes that are left, and those of the changes that are still to be counted.
use Rattle.std.proofs.Common.{◌≡◌, ◌-◌, length, map}
use Rattle.std.specs.List.{flat_map}
use Rattle.tables.specs.Change.{change_bytes}
use Rattle.tables.specs.ChangeView.{change_of}
use Rattle.unit_changes.proofs.unit.left_after.Given as goal

abbrev pub invariant-loop-rest : goal.invariant-loop-rest
invariant-loop-rest l = l.left - length (flat_map change_bytes (map change_of l.rest)) ≡ l.fn.left - length (flat_map change_bytes (map change_of l.changes))

abbrev pub decreases-loop-rest : goal.decreases-loop-rest
decreases-loop-rest l = length l.rest
