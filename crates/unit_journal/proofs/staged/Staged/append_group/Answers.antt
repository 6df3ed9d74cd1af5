use Rattle.unit_journal.proofs.Staging.{rested_then}
use Rattle.unit_journal.proofs.staged.Staged.append_group.Goals as goal

pub returns-clause-adds : goal.returns-clause-adds
returns-clause-adds g c =
    let rest = c.in_ok-rest.ensures in
    rested_then g.D.Disk.is_modelled (g.D.Disk.life c.args.disk.now) (g.D.Disk.life c.rest.new.disk) (g.D.Disk.life c.append_group.new.disk) c.args.self.now _ c.args.group.now _ c.args.hold c.args.release c.rest.ensures.stays rest.cause rest.settled
    c.append_group.result c.rest.new.self.journal c.rest.ensures.journal (record { none_ahead = rest.rest.none_ahead; none_behind = rest.rest.none_behind; settled = rest.rest.settled }) c.append_group.ensures.adds
