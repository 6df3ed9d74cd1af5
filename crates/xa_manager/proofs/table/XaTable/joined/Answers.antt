use Rattle.std.proofs.Common.{sym, ◌∙◌}
use Rattle.xa_manager.proofs.Rising.{none_joined}
use Rattle.xa_manager.proofs.table.XaTable.joined.Goals as goal

-- none is active
pub returns-then-self-eq0 : goal.returns-then-self-eq0
returns-then-self-eq0 c = rw (← c.self.view_is) (sym (none_joined c.self.inside.branches.items c.args.conversation (sym c.self.invariant.active_is ∙ c.if-self-eq0.true)))
