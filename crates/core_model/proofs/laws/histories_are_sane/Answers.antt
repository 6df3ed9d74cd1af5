use Rattle.core_model.proofs.Histories.{histories_are_sane, new_cores_are_sane}
use Rattle.core_model.proofs.laws.histories_are_sane.Goals as goal

pub returns-clause-histories : goal.returns-clause-histories
returns-clause-histories c =
    let local = c.changes_are_local.ensures in
    histories_are_sane local.created local.put local.removed local.kept c.adding.ensures c.statements_are_framed.ensures.enough c.statements_are_framed.ensures.lies

pub returns-clause-new : goal.returns-clause-new
returns-clause-new c = new_cores_are_sane
