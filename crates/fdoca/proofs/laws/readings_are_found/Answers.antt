use Rattle.fdoca.proofs.Rows.{row_back, row_is}
use Rattle.fdoca.proofs.Triplets.{description_back, description_is}
use Rattle.fdoca.proofs.laws.readings_are_found.Goals as goal

pub returns-clause-descriptor : goal.returns-clause-descriptor
returns-clause-descriptor c = description_back

pub returns-clause-described : goal.returns-clause-described
returns-clause-described c = description_is

pub returns-clause-row : goal.returns-clause-row
returns-clause-row c = row_back

pub returns-clause-values : goal.returns-clause-values
returns-clause-values c = row_is
