use Rattle.std.proofs.Common.{◌≡◌, take}
use Rattle.core_history.specs.Gathered.{group_of}
use Rattle.core_history.proofs.chosen.list_calls.Given as goal

abbrev pub invariant-loop-member : goal.invariant-loop-member
invariant-loop-member l = l.calls.items ≡ group_of (take l.member-index l.members)
