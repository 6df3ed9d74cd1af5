use Rattle.std.proofs.Common.{ap, ◌∙◌}
use Rattle.unit_locks.specs.Lists.{list_at}
use Rattle.unit_locks.proofs.ListRows.{list_grown}
use Rattle.unit_locks.proofs.lists.grow.Goals as goal

pub loop-alloc-preserved : goal.loop-alloc-preserved
loop-alloc-preserved g c k = ap (λ l. list_at l k) c.in_ok-push.ensures.items ∙ list_grown c.loop-alloc.lists.items c.new.result k c.new.ensures.items ∙ c.loop-alloc.invariant k
