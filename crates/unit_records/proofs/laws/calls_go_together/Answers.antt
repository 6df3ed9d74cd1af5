use Rattle.unit_records.proofs.Turns.{calls_go_together}
use Rattle.unit_records.proofs.laws.calls_go_together.Goals as goal

pub returns : goal.returns
returns c = calls_go_together
