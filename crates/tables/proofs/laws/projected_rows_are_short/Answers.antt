use Rattle.tables.proofs.Projected.{rows_are_short}
use Rattle.tables.proofs.laws.projected_rows_are_short.Goals as goal

pub returns : goal.returns
returns c = rows_are_short
