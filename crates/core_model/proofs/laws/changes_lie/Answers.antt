use Rattle.core_model.proofs.Lying.{changes_lie}
use Rattle.core_model.proofs.laws.changes_lie.Goals as goal

pub returns : goal.returns
returns c = changes_lie c.changes_are_local.ensures.created c.changes_are_local.ensures.put c.changes_are_local.ensures.removed c.adding.ensures c.statements_are_framed.ensures.enough c.statements_are_framed.ensures.lies
