use Rattle.std.proofs.Common.{◌≡◌, length}
use Rattle.unit_records.specs.Together.{are_ready}
use Rattle.rdb_core.specs.State.{state_of}
use Rattle.rdb_core.proofs.engine.Core.are_ready.Given as goal

abbrev pub invariant-loop-left : goal.invariant-loop-left
invariant-loop-left g l = are_ready (state_of l.self) l.left ≡ are_ready (state_of l.self) l.calls

abbrev pub decreases-loop-left : goal.decreases-loop-left
decreases-loop-left g l = length l.left
