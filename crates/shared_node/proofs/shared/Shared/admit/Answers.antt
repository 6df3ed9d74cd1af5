use Rattle.shared_node.proofs.Locking.{gives, gives_none}
use Rattle.shared_node.proofs.shared.Shared.admit.Goals as goal

pub returns-clause-given : goal.returns-clause-given
returns-clause-given g c =
    gives {D = g.row.D.Denot} g.D.Disk.is_modelled g.D.Disk.life g.B.Origin.is c.deref_mut-held.result.now c.admit.new.self c.admit.ensures.origin c.admit.ensures.was_kept c.admit.ensures.is_kept c.admit.ensures.journaled c.admit.result c.admit.ensures.some

pub returns-clause-none : goal.returns-clause-none
returns-clause-none g c =
    λ is. gives_none {D = g.row.D.Denot} g.D.Disk.is_modelled g.D.Disk.life g.B.Origin.is c.deref_mut-held.result.now c.admit.new.self c.admit.ensures.origin c.admit.ensures.was_kept c.admit.ensures.is_kept c.admit.ensures.journaled (c.admit.ensures.none is)
