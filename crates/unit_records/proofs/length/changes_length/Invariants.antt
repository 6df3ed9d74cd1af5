-- The bytes so far and those of the changes to come, up to the greatest number.
use Rattle.std.proofs.Common.{◌≡◌, ◌+◌, ◌-◌, ◌^◌, ◌<◌, min, length, map}
use Rattle.std.specs.List.{flat_map}
use Rattle.tables.specs.Change.{change_bytes}
use Rattle.tables.specs.ChangeView.{change_of}
use Rattle.unit_records.proofs.length.changes_length.Given as goal

abbrev pub invariant-loop-left : goal.invariant-loop-left
invariant-loop-left l = record {
  small : l.sum < 2 ^ 64;
  sum : min (l.sum + length (flat_map change_bytes (map change_of l.left))) (2 ^ 64 - 1) ≡ min (length (flat_map change_bytes (map change_of l.changes))) (2 ^ 64 - 1);
}

abbrev pub decreases-loop-left : goal.decreases-loop-left
decreases-loop-left l = length l.left
