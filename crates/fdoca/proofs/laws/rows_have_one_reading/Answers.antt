use Rattle.fdoca.proofs.Rows.{one_row}
use Rattle.fdoca.proofs.Triplets.{one_pair}
use Rattle.fdoca.proofs.laws.rows_have_one_reading.Goals as goal

pub returns-clause-row : goal.returns-clause-row
returns-clause-row c = one_row

pub returns-clause-parameters : goal.returns-clause-parameters
returns-clause-parameters c = one_pair
