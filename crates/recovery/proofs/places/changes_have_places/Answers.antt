use Rattle.recovery.proofs.Answering.{changes_placed}
use Rattle.recovery.proofs.NameClaims.{creations_claim}
use Rattle.recovery.proofs.places.changes_have_places.Goals as goal

pub returns-clause-places : goal.returns-clause-places
returns-clause-places c = changes_placed c.changes_are_local.ensures.put c.changes_are_local.ensures.removed c.stores_hold_tables.ensures.tables c.stores_hold_tables.ensures.rows

pub returns-clause-names : goal.returns-clause-names
returns-clause-names c = creations_claim c.statements_are_framed.ensures.lies c.statements_are_framed.ensures.enough
