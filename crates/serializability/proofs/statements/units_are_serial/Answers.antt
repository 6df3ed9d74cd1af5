use Rattle.serializability.specs.Words.{Laws}
use Rattle.serializability.specs.Events.{UnitMap, UnitMapLaws}
use Rattle.serializability.specs.UnitList.{unit_list}
use Rattle.serializability.specs.Prepared.{prepared_units}
use Rattle.serializability.proofs.Running.{serial_order}
use Rattle.serializability.proofs.UnitList.{list_laws}
use Rattle.serializability.proofs.Bare.{forget_run, serial_order_of}
use Rattle.serializability.proofs.Keeping.{events_keep}
use Rattle.serializability.proofs.Prepared.{prepared_laws}
use Rattle.serializability.specs.SqlWords.{sql_words}
use Rattle.serializability.proofs.SqlLaws.{sql_laws}
use Rattle.serializability.proofs.statements.units_are_serial.Goals as goal

pub returns : goal.returns
returns c =
    let local = c.changes_are_local.ensures in
    let tables = c.changes_make_tables.ensures in
    let framed = c.statements_are_framed.ensures in
    let laws : Laws sql_words = sql_laws local.created local.put local.removed local.kept tables.created tables.put tables.removed tables.names c.clash_is_symmetric.ensures c.adding.ensures framed.framed framed.lies in
    let units : UnitMap sql_words = unit_list sql_words in
    let listed : UnitMapLaws sql_words units = list_laws sql_words in record {
      events = serial_order sql_words laws units listed;
      calls = serial_order_of sql_words laws units listed (prepared_units sql_words units) (prepared_laws sql_words units listed);
      kept = events_keep sql_words laws units listed;
      beside = forget_run sql_words units listed;
    }
