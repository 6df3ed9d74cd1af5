use Rattle.std.proofs.Common.{◌≡◌, ◌<◌, ℕ, Some, slice_get}
use Rattle.core_history.specs.declared.count.Count.{Count}
use Rattle.core_history.specs.Passes.{IsAt}
use Rattle.core_history.proofs.closing.are_all.Given as goal

abbrev pub invariant-loop-place : goal.invariant-loop-place
invariant-loop-place l = (q : ℕ) (c : Count) → q < l.place → slice_get l.places q ≡ Some (Some c) → IsAt l.passes q
