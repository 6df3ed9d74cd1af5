use Rattle.std.proofs.Common.{◌∙◌}
use Rattle.std.specs.Prelude.{bytes_eq}
use Rattle.tables.proofs.Places.{any_found}
use Rattle.recovery.specs.Replay.{doubt_in}
use Rattle.durable_core.proofs.holders.is_in_doubt.Goals as goal

pub returns : goal.returns
returns c = c.has.ensures ∙ any_found doubt_in (bytes_eq c.args.xid.now) c.args.units.now
