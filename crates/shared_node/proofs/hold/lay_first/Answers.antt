use Rattle.shared_node.proofs.Locking.{lays_ahead}
use Rattle.shared_node.proofs.hold.lay_first.Goals as goal

pub returns-in_default : goal.returns-in_default
returns-in_default g c =
    lays_ahead {D = g.row.D.Denot} g.D.Disk.is_modelled g.D.Disk.life g.B.Origin.is c.deref_mut-held.result.now c.lay_ahead.new.self c.lay_ahead.ensures.origin c.lay_ahead.ensures.was_kept c.lay_ahead.ensures.is_kept c.lay_ahead.ensures.journaled
    c.lay_ahead.ensures.lays
