-- What was there stands in front, and what is there, with the rows still to come, is the whole.
use Rattle.std.proofs.Common.{◌≤◌, ◌-◌, take, drop}
use Rattle.std.specs.Prelude.{vec_capacity}
use Rattle.sqlam_replies.specs.Rows.{answered}
use Rattle.sqlam_replies.proofs.Appending.{SoFar}
use Rattle.sqlam_replies.proofs.rows.push_rows.Given as goal

abbrev pub invariant-loop-i : goal.invariant-loop-i
invariant-loop-i l = (l.from ≤ l.i) × SoFar (answered l.rows) (take l.count (drop l.from l.rows.rows)) (l.i - l.from) l.fn.out.items l.out.items × (vec_capacity l.fn.out ≤ vec_capacity l.out)
