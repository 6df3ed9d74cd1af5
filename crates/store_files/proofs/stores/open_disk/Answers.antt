use Rattle.recovery.specs.Durable.{fresh}
use Rattle.store_files.proofs.StoreFaults.{excused_so}
use Rattle.store_files.proofs.stores.open_disk.Goals as goal

pub returns-in-Ok-clause-opened : goal.returns-in-Ok-clause-opened
returns-in-Ok-clause-opened g c = record { stood = c.in-Ok.ensures.found; finds = c.in-Ok.ensures.opens; stays = c.in-Ok.ensures.stays; quiet = c.in-Ok.ensures.cause }

pub returns-in-Ok-clause-fresh : goal.returns-in-Ok-clause-fresh
returns-in-Ok-clause-fresh g c name is opens = c.in-Ok.ensures.opens name fresh is opens

pub returns-in-Err-clause-opened : goal.returns-in-Err-clause-opened
returns-in-Err-clause-opened g c = record { error = c.in-Err.refused.error; reported = c.fault_of.ensures; is = c.in-Err.ensures.tells; excused = c.in-Err.ensures.opens }

pub returns-in-Err-clause-fresh : goal.returns-in-Err-clause-fresh
returns-in-Err-clause-fresh g c name is opens = excused_so c.fault_of.result c.in-Err.refused.error c.fault_of.ensures (c.in-Err.ensures.opens name fresh is opens)

pub returns-in-Ok-clause-settled : goal.returns-in-Ok-clause-settled
returns-in-Ok-clause-settled g c = c.in-Ok.ensures.first
