use Rattle.shared_node.proofs.Locking.{lays_ahead}
use Rattle.shared_node.proofs.hold.open_early.Goals as goal

pub returns-in_default : goal.returns-in_default
returns-in_default g c =
    lays_ahead {D = g.row.D.Denot} g.D.Disk.is_modelled g.D.Disk.life g.B.Origin.is c.deref_mut-held.result.now c.open_early.new.self c.open_early.ensures.origin c.open_early.ensures.was_kept c.open_early.ensures.is_kept c.open_early.ensures.journaled
    c.open_early.ensures.lays
