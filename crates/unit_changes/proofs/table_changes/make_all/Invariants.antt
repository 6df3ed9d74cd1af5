-- The steps that are left have room, and with them all are made.
use Rattle.std.proofs.Common.{◌≡◌, map}
use Rattle.key_map.specs.Merging.{InOrder, Rows, merged}
use Rattle.key_map.specs.Overlay.{changes_of}
use Rattle.unit_changes.specs.KeyChanges.{HaveRoom, step_of}
use Rattle.unit_changes.specs.UnitTable.{all_changed}
use Rattle.unit_changes.proofs.table_changes.make_all.Given as goal

abbrev pub invariant-loop-step : goal.invariant-loop-step
invariant-loop-step l = record {
  made : (base : Rows) → InOrder base → all_changed (merged base (changes_of l.rows)) (map step_of l.step-iterator.rest.items) ≡ all_changed (merged base (changes_of l.fn.rows)) (map step_of l.fn.steps.items);
  room : HaveRoom l.rows l.step-iterator.rest.items;
}
