-- The last one of what is left is that of all records; where none is left that left one in doubt, it is known.
use Rattle.std.proofs.Common.{ℕ, length}
use Rattle.recovery.specs.Replay.{doubts_in}
use Rattle.durable_core.specs.Holders.{IsLastHolder, NoneHolds, TellsLast}
use Rattle.durable_core.proofs.holders.last_holder.Given as goal

abbrev pub invariant-loop-left : goal.invariant-loop-left
invariant-loop-left l = record {
  later : (at : ℕ) → IsLastHolder (doubts_in l.units) l.left at → IsLastHolder (doubts_in l.units) l.records at;
  so_far : NoneHolds (doubts_in l.units) l.left → TellsLast (doubts_in l.units) l.records l.last;
}

abbrev pub decreases-loop-left : goal.decreases-loop-left
decreases-loop-left l = length l.left
