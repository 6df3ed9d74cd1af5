use Rattle.std.proofs.Common.{inl, inr, refl}
use Rattle.store_files.proofs.stores.open_to_run.Goals as goal

pub returns-in-Ok : goal.returns-in-Ok
returns-in-Ok g c = inr (c.in-Ok.disk, c.in-Ok.ensures.call, c.open_disk.ensures.opened, c.open_disk.ensures.settled)

pub returns-in-Err : goal.returns-in-Err
returns-in-Err g c = inl (c.in-Err.ensures.call, refl)
