use Rattle.std.proofs.Common.{inr, ℕ, List, refl, sym, subst}
use Rattle.std.specs.Prelude.{IfOk}
use Rattle.drda_disk.proofs.Moments.{Stays-trans}
use Rattle.recovery.specs.Opens.{OpensTo}
use Rattle.durable_core.specs.Opening.{CountsOpen, OpensStore, StoodThere, disk_in}
use Rattle.durable_core.proofs.Answered.{syncs_first}
use Rattle.durable_core.proofs.opening.open.Goals as goal

pub returns-in-Ok-clause-first : goal.returns-in-Ok-clause-first
returns-in-Ok-clause-first g c =
    syncs_first g.D.Disk.life g.D.Disk.syncs c.args.disk c.sync.new.self c.in-Ok.ensures.call c.sync.ensures.stays c.in-Ok.ensures.durable c.open_synced.result c.open_synced.ensures.stays

pub returns-in-Ok-clause-opens : goal.returns-in-Ok-clause-opens
returns-in-Ok-clause-opens g c name d is opens = c.open_synced.ensures.opens name d is (subst (λ (i : List ℕ). OpensTo name d i) (sym c.sync.ensures.stays.same) opens)

pub returns-in-Ok-clause-found : goal.returns-in-Ok-clause-found
returns-in-Ok-clause-found g c is = subst (λ (i : List ℕ). IfOk c.open_synced.result (StoodThere i)) c.sync.ensures.stays.same (c.open_synced.ensures.found is)

pub returns-in-Ok-clause-tells : goal.returns-in-Ok-clause-tells
returns-in-Ok-clause-tells g c is = subst (λ (i : List ℕ). OpensStore c.open_synced.result i) c.sync.ensures.stays.same (c.open_synced.ensures.tells is)

pub returns-in-Ok-clause-stays : goal.returns-in-Ok-clause-stays
returns-in-Ok-clause-stays g c = Stays-trans _ _ _ c.sync.ensures.stays c.open_synced.ensures.stays

pub returns-in-Ok-clause-cause : goal.returns-in-Ok-clause-cause
returns-in-Ok-clause-cause g c =
    subst (λ (n : ℕ). CountsOpen c.open_synced.result n (g.D.Disk.life (disk_in c.open_synced.result)).faults) c.in-Ok.ensures.faults c.open_synced.ensures.cause

pub returns-in-Err-clause-first : goal.returns-in-Err-clause-first
returns-in-Err-clause-first g c = inr (record { told = refl; call = c.in-Err.ensures.call })
