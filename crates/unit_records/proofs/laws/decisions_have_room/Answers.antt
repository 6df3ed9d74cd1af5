use Rattle.unit_records.proofs.Parts.{decision_fits, decision_needs_no_more, decision_short, heuristics_fit}
use Rattle.unit_records.proofs.laws.decisions_have_room.Goals as goal

pub returns : goal.returns
returns c = record { fit = decision_fits; heuristics = heuristics_fit; no_more = decision_needs_no_more; short = decision_short }
