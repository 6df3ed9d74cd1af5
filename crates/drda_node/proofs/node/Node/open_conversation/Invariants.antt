use Rattle.std.proofs.Common.{◌≡◌, ◌<◌, ℕ, Some, None, slice_get}
use Rattle.drda_node.specs.Register.{machine}
use Rattle.drda_node.proofs.node.Node.open_conversation.Given as goal

abbrev pub invariant-loop-place : goal.invariant-loop-place
invariant-loop-place g l = record {
  same : l.self ≡ l.fn.self;
  taken : (k : ℕ) → k < l.place → slice_get (machine l.self).row k ≡ Some None → ⊥;
}
