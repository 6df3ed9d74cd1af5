use Rattle.core_model.proofs.Deciding.{in_doubt_wait}
use Rattle.core_model.proofs.laws.units_in_doubt_wait.Goals as goal

pub returns : goal.returns
returns c = in_doubt_wait c.works_while_active.ensures c.prepared_until_decided.ensures.stays c.prepared_until_decided.ensures.outlives
