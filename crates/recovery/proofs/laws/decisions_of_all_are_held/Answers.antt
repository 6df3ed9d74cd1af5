use Rattle.recovery.proofs.Holding.{held_for_all}
use Rattle.recovery.proofs.laws.decisions_of_all_are_held.Goals as goal

pub returns : goal.returns
returns c = held_for_all c.doubts_hold_their_decisions.ensures
