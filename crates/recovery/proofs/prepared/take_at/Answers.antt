use Rattle.std.proofs.Common.{ap, ◌∙◌}
use Rattle.recovery.specs.Replay.{doubts_in}
use Rattle.recovery.proofs.Doubting.{unit_gone, unit_there}
use Rattle.recovery.proofs.prepared.take_at.Goals as goal

pub returns-clause-unit : goal.returns-clause-unit
returns-clause-unit c = unit_there c.args.xid.now c.args.units.now.items c.args.place c.remove.result c.requires c.remove.ensures.value

pub returns-clause-left : goal.returns-clause-left
returns-clause-left c = ap doubts_in c.remove.ensures.items ∙ unit_gone c.args.xid.now c.args.units.now.items c.args.place c.requires
