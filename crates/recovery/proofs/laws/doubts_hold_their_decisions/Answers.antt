use Rattle.recovery.proofs.Holding.{held_for_doubts}
use Rattle.recovery.proofs.laws.doubts_hold_their_decisions.Goals as goal

pub returns : goal.returns
returns c = held_for_doubts
