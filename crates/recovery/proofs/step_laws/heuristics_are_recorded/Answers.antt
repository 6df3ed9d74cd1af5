use Rattle.recovery.proofs.KeptSteps.{decisions_keep}
use Rattle.recovery.proofs.DueRecords.{decisions_lead, heuristics_are_of_doubts}
use Rattle.recovery.proofs.step_laws.heuristics_are_recorded.Goals as goal

pub returns-clause-keep : goal.returns-clause-keep
returns-clause-keep c =
    let places = c.places_depend_on_tables.ensures in
    let asked = c.changes_have_places.ensures in
    decisions_keep c.changes_are_local.ensures.kept places.rows places.tables places.kept places.go_on c.adding.ensures asked.places asked.names c.actions_fit_states.ensures c.works_while_active.ensures c.units_in_doubt_wait.ensures

pub returns-clause-lead : goal.returns-clause-lead
returns-clause-lead c = decisions_lead

pub returns-clause-held : goal.returns-clause-held
returns-clause-held c = heuristics_are_of_doubts c.doubts_hold_their_decisions.ensures
