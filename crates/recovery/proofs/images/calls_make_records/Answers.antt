use Rattle.recovery.proofs.Making.{one_call_is_made, one_group_is_made}
use Rattle.recovery.proofs.images.calls_make_records.Goals as goal

pub returns : goal.returns
returns g c = one_call_is_made g.D.Disk.life c.groups_open.ensures (one_group_is_made c.groups_open.ensures g.D.Disk.life)
