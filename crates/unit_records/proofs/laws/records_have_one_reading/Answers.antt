use Rattle.std.proofs.Common.{refl}
use Rattle.unit_records.proofs.Bodies.{one_reading}
use Rattle.unit_records.proofs.laws.records_have_one_reading.Goals as goal

pub returns-clause-once : goal.returns-clause-once
returns-clause-once c = one_reading c.parts_stand_once.ensures

pub returns-clause-written : goal.returns-clause-written
returns-clause-written c = λ r good. record { same_kind = refl; bytes = refl; good = good }
