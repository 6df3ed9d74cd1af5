use Rattle.durable_core.proofs.Heads.{no_damage}
use Rattle.durable_core.proofs.reading.read_journal.Goals as goal

pub returns-in-Err-Damaged-clause-opens : goal.returns-in-Err-Damaged-clause-opens
returns-in-Err-Damaged-clause-opens g c es modelled stands =
    no_damage c.open.result c.in-Err-Damaged.field-0 c.in-Err-Damaged.at c.in-Err-Damaged.is c.in-Err-Damaged.field-0-is (c.open.ensures.whole es modelled stands)
