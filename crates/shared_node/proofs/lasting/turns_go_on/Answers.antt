use Rattle.shared_node.proofs.Remaining.{turns_go_on}
use Rattle.shared_node.proofs.lasting.turns_go_on.Goals as goal

pub returns : goal.returns
returns g c = turns_go_on g.D.Disk.is_modelled g.D.Disk.life
