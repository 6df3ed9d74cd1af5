use Rattle.std.proofs.Common.{◌≡◌, ◌+◌, ◌≤◌, length}
use Rattle.unit_journal.specs.Journal.{held_of, next_of, region_of}
use Rattle.recovery.specs.Laws.{held_for}
use Rattle.recovery.specs.Replay.{doubts_in}
use Rattle.durable_core.proofs.holding.hold_all.Given as goal

-- what is held with what is still to be held is all
abbrev pub invariant-loop-left : goal.invariant-loop-left
invariant-loop-left l =
    record {
      all : held_of l.journal + held_for l.layout (doubts_in l.left) ≡ held_of l.fn.journal + held_for l.layout (doubts_in l.units);
      low : held_of l.fn.journal ≤ held_of l.journal;
      region : region_of l.journal ≡ region_of l.fn.journal;
      next : next_of l.journal ≡ next_of l.fn.journal;
    }

abbrev pub decreases-loop-left : goal.decreases-loop-left
decreases-loop-left l = length l.left
