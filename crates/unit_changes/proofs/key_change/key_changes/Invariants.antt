-- What has been said so far, and what the changes that are left say.
use Rattle.std.proofs.Common.{◌≡◌, ◌++◌, length, map}
use Rattle.std.specs.List.{AllByRecursion, flat_map}
use Rattle.tables.specs.ChangeView.{change_of}
use Rattle.unit_changes.specs.KeyChanges.{step_of}
use Rattle.unit_changes.specs.UnitTable.{SaysKeys, said_by}
use Rattle.unit_changes.proofs.key_change.key_changes.Given as goal

abbrev pub invariant-loop-left : goal.invariant-loop-left
invariant-loop-left l = record {
  said : map step_of l.steps.items ++ flat_map (said_by l.schema) (map change_of l.left) ≡ flat_map (said_by l.schema) (map change_of l.changes);
  bytes : AllByRecursion (SaysKeys l.schema) (map change_of l.left) → AllByRecursion (SaysKeys l.schema) (map change_of l.changes);
}

abbrev pub decreases-loop-left : goal.decreases-loop-left
decreases-loop-left l = length l.left
