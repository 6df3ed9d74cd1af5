use Rattle.recovery.proofs.KeptSteps.{steps_keep}
use Rattle.recovery.proofs.DueRecords.{decisions_are_of_doubts, records_lead}
use Rattle.recovery.proofs.Misread.{misreads_keep, misreads_stay}
use Rattle.recovery.proofs.Silent.{silent_steps_stay}
use Rattle.recovery.proofs.DueKinds.{due_are_known}
use Rattle.recovery.proofs.step_laws.steps_are_recorded.Goals as goal

pub returns-clause-keep : goal.returns-clause-keep
returns-clause-keep c =
    let places = c.places_depend_on_tables.ensures in
    let asked = c.changes_have_places.ensures in
    steps_keep c.changes_are_local.ensures.kept places.rows places.tables places.kept places.go_on c.adding.ensures asked.places asked.names c.actions_fit_states.ensures c.works_while_active.ensures c.units_in_doubt_wait.ensures

pub returns-clause-silent : goal.returns-clause-silent
returns-clause-silent c = silent_steps_stay c.works_while_active.ensures c.actions_fit_states.ensures

pub returns-clause-lead : goal.returns-clause-lead
returns-clause-lead c = records_lead c.actions_fit_states.ensures

pub returns-clause-decisions : goal.returns-clause-decisions
returns-clause-decisions c = decisions_are_of_doubts c.doubts_hold_their_decisions.ensures c.actions_fit_states.ensures

pub returns-clause-known : goal.returns-clause-known
returns-clause-known c = due_are_known c.actions_fit_states.ensures

pub returns-clause-misread_keep : goal.returns-clause-misread_keep
returns-clause-misread_keep c =
    let places = c.places_depend_on_tables.ensures in
    let asked = c.changes_have_places.ensures in
    misreads_keep places.tables
    (steps_keep c.changes_are_local.ensures.kept places.rows places.tables places.kept places.go_on c.adding.ensures asked.places asked.names c.actions_fit_states.ensures c.works_while_active.ensures c.units_in_doubt_wait.ensures)

pub returns-clause-misread_stays : goal.returns-clause-misread_stays
returns-clause-misread_stays c = misreads_stay c.places_depend_on_tables.ensures.tables (silent_steps_stay c.works_while_active.ensures c.actions_fit_states.ensures)
