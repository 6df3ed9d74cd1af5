-- The steps before those that are left have room.
use Rattle.std.proofs.Common.{◌≡◌, ℕ, List, drop}
use Rattle.key_map.specs.Slots.{HasRoom, Slots}
use Rattle.key_map.specs.Overlay.{changes_of}
use Rattle.unit_changes.specs.KeyChanges.{HaveRoom}
use Rattle.unit_changes.proofs.table_changes.reserve_all.Given as goal

abbrev pub invariant-loop-i : goal.invariant-loop-i
invariant-loop-i l = record {
  same : changes_of l.rows ≡ changes_of l.fn.rows;
  room : (slots : Slots) → ((q : List ℕ) → HasRoom q l.rows → HasRoom q slots) → HaveRoom slots (drop l.i l.steps) → HaveRoom slots l.steps;
}
