use Rattle.serializability.specs.Words.{Laws}
use Rattle.serializability.specs.SqlWords.{sql_words}
use Rattle.serializability.proofs.SqlLaws.{sql_laws}
use Rattle.serializability.specs.CoreWords.{core_words}
use Rattle.serializability.proofs.CoreLaws.{core_laws}
use Rattle.serializability.proofs.Answering.{calls_lead_on}
use Rattle.serializability.proofs.SerialRuns.{answers_are_serial, logs_are_answers}
use Rattle.serializability.proofs.answers.answers_are_serial.Goals as goal

pub returns : goal.returns
returns c =
    let local = c.changes_are_local.ensures in
    let tables = c.changes_make_tables.ensures in
    let framed = c.statements_are_framed.ensures in
    let sql : Laws sql_words = sql_laws local.created local.put local.removed local.kept tables.created tables.put tables.removed tables.names c.clash_is_symmetric.ensures c.adding.ensures framed.framed framed.lies in
    let laws : Laws core_words = core_laws sql framed.enough in record {
      lead_on = calls_lead_on;
      logs = logs_are_answers laws c.units_in_doubt_wait.ensures c.actions_fit_states.ensures;
      serial = answers_are_serial laws c.units_in_doubt_wait.ensures c.actions_fit_states.ensures;
    }
