use Rattle.serializability.specs.Words.{Laws}
use Rattle.serializability.proofs.Running.{serial_order}
use Rattle.serializability.proofs.Keeping.{events_keep}
use Rattle.serializability.specs.SqlWords.{sql_words}
use Rattle.serializability.proofs.SqlLaws.{sql_laws}
use Rattle.serializability.specs.CoreWords.{core_units, core_words}
use Rattle.serializability.proofs.CoreLaws.{core_laws}
use Rattle.serializability.proofs.CoreUnits.{core_kept, core_serializability, events_are_theirs}
use Rattle.serializability.proofs.CoreHistories as serial
use Rattle.serializability.proofs.histories.histories_are_serial.Goals as goal

pub returns : goal.returns
returns c =
    let local = c.changes_are_local.ensures in
    let tables = c.changes_make_tables.ensures in
    let framed = c.statements_are_framed.ensures in
    let sql : Laws sql_words = sql_laws local.created local.put local.removed local.kept tables.created tables.put tables.removed tables.names c.clash_is_symmetric.ensures c.adding.ensures framed.framed framed.lies in
    let laws : Laws core_words = core_laws sql framed.enough in record {
      events = serial_order core_words laws core_units core_kept;
      kept = events_keep core_words laws core_units core_kept;
      theirs = events_are_theirs;
      core = core_serializability laws;
      histories = serial.histories_are_serial laws c.units_in_doubt_wait.ensures c.actions_fit_states.ensures;
      decided = serial.decided_histories_are_serial laws c.units_in_doubt_wait.ensures c.actions_fit_states.ensures;
    }
