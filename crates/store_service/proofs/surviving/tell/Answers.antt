use Rattle.std.proofs.Common.{refl}
use Rattle.store_service.proofs.Survivors.{opened_so}
use Rattle.store_service.proofs.surviving.tell.Goals as goal

pub returns-in-Ok-clause-ok : goal.returns-in-Ok-clause-ok
returns-in-Ok-clause-ok c name d opens = opened_so d c.plain_of.result c.in-Ok.core.state (c.in-Ok.ensures.opens name d refl opens).state c.plain_of.ensures.ok

pub returns-in-Err-clause-ok : goal.returns-in-Err-clause-ok
returns-in-Err-clause-ok c name d opens = tt

pub returns-in-Ok-clause-err : goal.returns-in-Ok-clause-err
returns-in-Ok-clause-err c name d opens = c.plain_of.ensures.err

pub returns-in-Err-clause-err : goal.returns-in-Err-clause-err
returns-in-Err-clause-err c name d opens = c.in-Err.ensures.opens name d refl opens
