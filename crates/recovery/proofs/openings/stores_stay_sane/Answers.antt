use Rattle.recovery.proofs.Beginning.{crashes_leave_sane, openings_stay_sane, stores_stay_sane}
use Rattle.recovery.proofs.openings.stores_stay_sane.Goals as goal

pub returns-clause-opened : goal.returns-clause-opened
returns-clause-opened c = openings_stay_sane

pub returns-clause-crashed : goal.returns-clause-crashed
returns-clause-crashed c = let steps = c.steps_are_recorded.ensures in let decisions = c.heuristics_are_recorded.ensures in crashes_leave_sane steps.keep steps.silent steps.lead decisions.keep decisions.lead c.histories_are_sane.ensures.histories

pub returns-clause-lives : goal.returns-clause-lives
returns-clause-lives c =
    let steps = c.steps_are_recorded.ensures in
    let sane = c.histories_are_sane.ensures in
    let decisions = c.heuristics_are_recorded.ensures in
    stores_stay_sane steps.keep steps.silent steps.lead decisions.keep decisions.lead sane.histories c.openings_are_kept.ensures c.records_lead_to_sound_states.ensures sane.new
