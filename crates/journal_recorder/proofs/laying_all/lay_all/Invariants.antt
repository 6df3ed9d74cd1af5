-- The records so far, and those that are left, are all of them.
use Rattle.std.proofs.Common.{length, map}
use Rattle.unit_records.specs.RecordContents.{said_by}
use Rattle.journal_recorder.proofs.Together.{IsSoFar}
use Rattle.journal_recorder.proofs.laying_all.lay_all.Given as goal

abbrev pub invariant-loop-left : goal.invariant-loop-left
invariant-loop-left l = IsSoFar l.layout (map said_by l.sayings) (map said_by l.left) l.group l.hold l.release

abbrev pub decreases-loop-left : goal.decreases-loop-left
decreases-loop-left l = length l.left
