use Rattle.recovery.proofs.Beginning.{crashes_find_points, entries_tell, records_go_on}
use Rattle.recovery.proofs.openings.crashes_find_points.Goals as goal

pub returns-clause-points : goal.returns-clause-points
returns-clause-points c = let steps = c.steps_are_recorded.ensures in let decisions = c.heuristics_are_recorded.ensures in crashes_find_points steps.keep steps.silent steps.lead decisions.keep decisions.lead

pub returns-clause-go_on : goal.returns-clause-go_on
returns-clause-go_on c = records_go_on

pub returns-clause-entries : goal.returns-clause-entries
returns-clause-entries c = entries_tell c.records_have_one_reading.ensures.once
