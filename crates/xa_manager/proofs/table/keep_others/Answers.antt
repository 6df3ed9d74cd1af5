use Rattle.std.proofs.Common.{rules}
use Rattle.std.proofs.lemmas.Fn.{filter_same}
use Rattle.xa_manager.proofs.table.keep_others.Goals as goal

-- the closure keeps the others
pub returns : goal.returns
returns c = filter_same _ _ _ (λ b kept f called. search rules) _ _ c.retain.ensures.filtered
