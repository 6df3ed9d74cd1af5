use Rattle.core_model.proofs.Sounding.{stores_stay, units_see_stores}
use Rattle.core_model.proofs.laws.stores_stay.Goals as goal

pub returns-clause-stay : goal.returns-clause-stay
returns-clause-stay c = stores_stay c.changes_are_local.ensures.kept

pub returns-clause-seen : goal.returns-clause-seen
returns-clause-seen c = units_see_stores c.changes_are_local.ensures.kept
