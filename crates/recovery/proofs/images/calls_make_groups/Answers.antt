use Rattle.recovery.proofs.Making.{one_group_is_made}
use Rattle.recovery.proofs.images.calls_make_groups.Goals as goal

pub returns : goal.returns
returns g c = one_group_is_made c.groups_open.ensures g.D.Disk.life
