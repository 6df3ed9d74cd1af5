use Rattle.journal_recorder.proofs.Pages.{kept}
use Rattle.journal_recorder.proofs.laws.pages_are_kept.Goals as goal

pub returns : goal.returns
returns g c = kept g.D.Disk.is_modelled g.D.Disk.life
