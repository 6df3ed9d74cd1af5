use Rattle.core_model.proofs.Listing.{one_listing, units_stay_listed}
use Rattle.core_model.proofs.laws.units_stay_listed.Goals as goal

pub returns-clause-stay : goal.returns-clause-stay
returns-clause-stay c = units_stay_listed

pub returns-clause-one : goal.returns-clause-one
returns-clause-one c = one_listing
