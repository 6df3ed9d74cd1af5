use Rattle.shared_node.proofs.Locking.{considers}
use Rattle.shared_node.proofs.shared.Shared.consider_checkpoint.Goals as goal

pub returns : goal.returns
returns g c =
    considers {D = g.row.D.Denot} g.D.Disk.is_modelled g.D.Disk.life g.B.Origin.is c.deref_mut-held.result.now c.consider_checkpoint.new.self c.consider_checkpoint.ensures.origin c.consider_checkpoint.ensures.was_kept c.consider_checkpoint.ensures.is_kept c.consider_checkpoint.ensures.journaled c.consider_checkpoint.result
    c.consider_checkpoint.ensures.considers
