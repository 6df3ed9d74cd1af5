use Rattle.shared_node.proofs.Locking.{takes_back}
use Rattle.shared_node.proofs.shared.Shared.retire.Goals as goal

pub returns : goal.returns
returns g c =
    takes_back {D = g.row.D.Denot} g.D.Disk.is_modelled g.D.Disk.life g.B.Origin.is c.deref_mut-held.result.now c.retire.new.self c.retire.ensures.origin c.retire.ensures.was_kept c.retire.ensures.is_kept c.retire.ensures.journaled c.args.pass c.retire.result
    (record { known = c.retire.ensures.known; done = c.retire.ensures.done; stranger = c.retire.ensures.stranger })
