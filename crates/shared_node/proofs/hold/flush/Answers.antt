use Rattle.shared_node.proofs.Locking.{lays_ahead}
use Rattle.shared_node.proofs.hold.flush.Goals as goal

pub returns : goal.returns
returns g c =
    lays_ahead {D = g.row.D.Denot} g.D.Disk.is_modelled g.D.Disk.life g.B.Origin.is c.deref_mut-held.result.now c.settle.new.self c.settle.ensures.origin c.settle.ensures.was_kept c.settle.ensures.is_kept c.settle.ensures.journaled
    c.settle.ensures.lays
