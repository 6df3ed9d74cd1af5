-- The rows so far fit, and this room is left.
use Rattle.sqlam_replies.proofs.Blocks.{Fits}
use Rattle.sqlam_replies.proofs.rows.block.Given as goal

abbrev pub invariant-loop-i : goal.invariant-loop-i
invariant-loop-i l = Fits l.rows l.from l.size l.i l.room
