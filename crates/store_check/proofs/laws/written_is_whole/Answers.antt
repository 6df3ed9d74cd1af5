use Rattle.store_check.proofs.Written.{table_whole}
use Rattle.store_check.proofs.laws.written_is_whole.Goals as goal

pub returns : goal.returns
returns c schema key_of rows places file image fit = table_whole c.one_laying.ensures.laid schema key_of rows places file image fit
