-- What is opened of a pager is opened of the disk that it has.
use Rattle.std.proofs.Common.{ℕ, List, IsTrue, IfOk, subst}
use Rattle.drda_disk.specs.Disk.{Stays}
use Rattle.recovery.specs.Durable.{Durable}
use Rattle.recovery.specs.Opens.{OpensTo}
use Rattle.durable_core.specs.Opening.{CountsOpen, Finds, OpensStore, StoodThere, disk_in}
use Rattle.durable_core.proofs.opening.open_synced.Goals as goal

pub returns-in-Ok-clause-opens : goal.returns-in-Ok-clause-opens
returns-in-Ok-clause-opens g c =
    subst (λ (d : g.row.D.Denot). (name : List ℕ) (x : Durable) → IsTrue g.D.Disk.is_modelled → OpensTo name x (g.D.Disk.life d).seen → Finds name x c.open_paged.result) c.over.ensures c.open_paged.ensures.opens

pub returns-in-Ok-clause-found : goal.returns-in-Ok-clause-found
returns-in-Ok-clause-found g c =
    subst (λ (d : g.row.D.Denot). IsTrue g.D.Disk.is_modelled → IfOk c.open_paged.result (StoodThere (g.D.Disk.life d).seen)) c.over.ensures c.open_paged.ensures.found

pub returns-in-Ok-clause-tells : goal.returns-in-Ok-clause-tells
returns-in-Ok-clause-tells g c =
    subst (λ (d : g.row.D.Denot). IsTrue g.D.Disk.is_modelled → OpensStore c.open_paged.result (g.D.Disk.life d).seen) c.over.ensures c.open_paged.ensures.tells

pub returns-in-Ok-clause-stays : goal.returns-in-Ok-clause-stays
returns-in-Ok-clause-stays g c =
    subst (λ (d : g.row.D.Denot). Stays (g.D.Disk.life d) (g.D.Disk.life (disk_in c.open_paged.result))) c.over.ensures c.open_paged.ensures.stays

pub returns-in-Ok-clause-cause : goal.returns-in-Ok-clause-cause
returns-in-Ok-clause-cause g c =
    subst (λ (d : g.row.D.Denot). CountsOpen c.open_paged.result (g.D.Disk.life d).faults (g.D.Disk.life (disk_in c.open_paged.result)).faults) c.over.ensures c.open_paged.ensures.cause
