use Rattle.std.proofs.Common.{inr, ◌-◌, length}
use Rattle.drda_disk.specs.Region.{end_of}
use Rattle.half_store.specs.Layout.{half_len}
use Rattle.durable_core.proofs.reading.read_tables.Goals as goal

pub returns-in-Ok-clause-laid : goal.returns-in-Ok-clause-laid
returns-in-Ok-clause-laid g c is = (c.in-Ok.ensures.told is).0

pub returns-in-Ok-clause-stand : goal.returns-in-Ok-clause-stand
returns-in-Ok-clause-stand g c =
    let region = c.args.active.now.region in
    record {
      inside = c.in-Ok.ensures.inside;
      apart = c.in-Ok.ensures.apart 0 (end_of region - half_len (length (g.D.Disk.life c.args.pager.now).seen)) (inr c.requires.apart);
      stand = λ is. (c.in-Ok.ensures.told is).1;
    }

pub returns-in-Err-Damaged-clause-opens : goal.returns-in-Err-Damaged-clause-opens
returns-in-Err-Damaged-clause-opens g c tables is has =
    c.checkpoints_are_known.ensures.sound _ _ tables c.in-Err-Damaged.at has
    (rw c.in-Err-Damaged.field-0-is at (c.in-Err-Damaged.ensures.told is))

pub returns-in-Err-Damaged-clause-tells : goal.returns-in-Err-Damaged-clause-tells
returns-in-Err-Damaged-clause-tells g c is =
    rw c.in-Err-Damaged.field-0-is at (c.in-Err-Damaged.ensures.told is)
