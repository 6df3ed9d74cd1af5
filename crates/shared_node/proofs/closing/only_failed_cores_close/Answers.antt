use Rattle.shared_node.proofs.Usable.{only_failed_cores_close}
use Rattle.shared_node.proofs.closing.only_failed_cores_close.Goals as goal

pub returns : goal.returns
returns g c = only_failed_cores_close g.D.Disk.is_modelled g.D.Disk.life g.B.Origin.is c.answers_belong_to_calls.ensures.belong
