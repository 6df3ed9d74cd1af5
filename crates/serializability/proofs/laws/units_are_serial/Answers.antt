use Rattle.serializability.specs.Events.{UnitMap, UnitMapLaws}
use Rattle.serializability.specs.UnitList.{unit_list}
use Rattle.serializability.specs.SmallStore.{small_words}
use Rattle.serializability.specs.Prepared.{prepared_units}
use Rattle.serializability.proofs.Running.{serial_order}
use Rattle.serializability.proofs.UnitList.{list_laws}
use Rattle.serializability.proofs.Bare.{forget_run, serial_order_of}
use Rattle.serializability.proofs.Keeping.{events_keep}
use Rattle.serializability.proofs.Prepared.{prepared_laws}
use Rattle.serializability.proofs.Framed.{small_laws}
use Rattle.serializability.proofs.laws.units_are_serial.Goals as goal

pub returns : goal.returns
returns c =
    let units : UnitMap small_words = unit_list small_words in
    let listed : UnitMapLaws small_words units = list_laws small_words in record {
      events = serial_order small_words small_laws units listed;
      calls = serial_order_of small_words small_laws units listed (prepared_units small_words units) (prepared_laws small_words units listed);
      kept = events_keep small_words small_laws units listed;
      beside = forget_run small_words units listed;
    }
