use Rattle.drda_node.proofs.Stations.{answers_stay}
use Rattle.drda_node.proofs.laws.answered_events_stay.Goals as goal

pub returns : goal.returns
returns g c = answers_stay g.D.Disk.is_modelled g.D.Disk.life c.calls_go_on.ensures
