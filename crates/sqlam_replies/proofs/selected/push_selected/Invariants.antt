-- What was there stands in front, and what is there, with the columns still to come, is the whole.
use Rattle.std.proofs.Common.{◌≤◌, map}
use Rattle.std.specs.Prelude.{vec_capacity}
use Rattle.row_values.specs.Column.{column_of}
use Rattle.row_values.specs.Schema.{picked}
use Rattle.sqlam_replies.specs.Sqldard.{column_group}
use Rattle.sqlam_replies.proofs.Appending.{SoFar}
use Rattle.sqlam_replies.proofs.selected.push_selected.Given as goal

abbrev pub invariant-loop-i : goal.invariant-loop-i
invariant-loop-i l =
    SoFar (column_group l.unicode) (picked (map column_of l.columns) l.places) l.i l.fn.out.items l.out.items
    × (vec_capacity l.fn.out ≤ vec_capacity l.out)
