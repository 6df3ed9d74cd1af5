use Rattle.shared_node.proofs.Remaining.{answers_are_durable}
use Rattle.shared_node.proofs.lasting.answers_are_durable.Goals as goal

pub returns : goal.returns
returns g c = answers_are_durable g.D.Disk.is_modelled g.D.Disk.life g.B.Origin.is c.kept_books_last.ensures
