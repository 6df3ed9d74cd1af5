use Rattle.core_history.proofs.Remaining.{kept_books_last}
use Rattle.core_history.proofs.lasting.kept_books_last.Goals as goal

pub returns : goal.returns
returns g c = kept_books_last g.D.Disk.life c.answered_units_stay.ensures g.D.Disk.is_modelled
