-- What is there, with those that are left, is all.
use Rattle.std.proofs.Common.{◌≡◌, ◌++◌, length, map}
use Rattle.std.specs.Map.{values_of}
use Rattle.unit_changes.specs.TableRows.{formed_of}
use Rattle.unit_changes.proofs.table_rows.push_all.Given as goal

abbrev pub invariant-loop-left : goal.invariant-loop-left
invariant-loop-left l = l.all ++ values_of (map formed_of l.left) ≡ l.fn.all ++ values_of (map formed_of l.rows)

abbrev pub decreases-loop-left : goal.decreases-loop-left
decreases-loop-left l = length l.left
