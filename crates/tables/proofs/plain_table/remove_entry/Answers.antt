use Rattle.std.proofs.Common.{rules}
use Rattle.std.proofs.lemmas.Fn.{filter_same}
use Rattle.tables.proofs.plain_table.remove_entry.Goals as goal

-- the closure keeps the rows of other keys
pub returns : goal.returns
returns c = filter_same _ _ _ (λ b kept f called. search rules) _ _ c.retain.ensures.filtered
