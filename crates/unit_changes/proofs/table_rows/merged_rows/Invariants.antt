-- What is there, with the rest in turn, is all in turn.
use Rattle.std.proofs.Common.{◌≡◌, ◌++◌, map}
use Rattle.std.specs.Map.{values_of}
use Rattle.key_map.specs.Walk.{rows_left}
use Rattle.key_map.specs.Overlay.{change_of, changes_of}
use Rattle.unit_changes.specs.TableRows.{formed_of, in_turn}
use Rattle.unit_changes.proofs.table_rows.merged_rows.Given as goal

abbrev pub invariant-loop-form : goal.invariant-loop-form
invariant-loop-form l = l.all ++ values_of (in_turn (map formed_of l.left) (map change_of (rows_left l.form-iterator))) ≡ values_of (in_turn (map formed_of l.rows) (changes_of l.changes))
