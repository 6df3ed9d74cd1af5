use Rattle.std.proofs.Common.{◌∷◌, []}
use Rattle.unit_journal.specs.LaidRecord.{entry_in}
use Rattle.unit_journal.proofs.Staging.{rested_then}
use Rattle.unit_journal.proofs.staged.Staged.append.Goals as goal

pub returns-clause-adds : goal.returns-clause-adds
returns-clause-adds g c =
    let rest = c.in_ok-rest.ensures in
    rested_then g.D.Disk.is_modelled (g.D.Disk.life c.args.disk.now) (g.D.Disk.life c.rest.new.disk) (g.D.Disk.life c.append.new.disk) c.args.self.now _ (entry_in c.args.laid.now ∷ []) _ c.args.hold c.args.release c.rest.ensures.stays rest.cause rest.settled
    c.append.result c.rest.new.self.journal c.rest.ensures.journal (record { none_ahead = rest.rest.none_ahead; none_behind = rest.rest.none_behind; settled = rest.rest.settled }) c.append.ensures.adds
