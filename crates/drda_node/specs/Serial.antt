-- What a machine answers is in serial order.
use Rattle.std.specs.Prelude.{◌≡◌, List, true}
use Rattle.core_model.specs.Laws.{IsSane}
use Rattle.recovery.specs.Durable.{Durable}
use Rattle.recovery.specs.Part.{opened}
use Rattle.recovery.specs.Openings.{IsOpening}
use Rattle.serializability.specs.Answered.{AnsweredCall, Begins, CallsLead, SerialRun, committed}
use Rattle.drda_node.specs.Asking.{AskedCore}
use Rattle.drda_node.specs.Calls.{IsHistory}

abbrev pub HistoriesLead : Type 0
HistoriesLead =
    (old new : AskedCore) (calls : List AnsweredCall) → old.is_told ≡ true → IsHistory old calls new → CallsLead old.state calls new.state

-- what is opened begins as the law asks it, where it is sane
abbrev pub SaneOpeningsBegin : Type 0
SaneOpeningsBegin = (d : Durable) → IsOpening (opened d) → IsSane (opened d).base → Begins (opened d)

-- Over a device that gives back what was written the units that were committed, with the answers that the machine gave, lead
-- alone one after another from the store that it began with to the committed one.
abbrev pub MachinesAreSerial : Type 0
MachinesAreSerial =
    (old new : AskedCore) (calls : List AnsweredCall)
    → old.is_told ≡ true → Begins old.state → IsHistory old calls new
    → SerialRun old.state.base.store (committed old.state calls) new.state.base.store
