use Rattle.std.proofs.Common.{◌/◌, ◌%◌, arith}
use Rattle.dss_frames.proofs.Joins.{set_three}
use Rattle.dss_frames.proofs.joining.set_count.Goals as goal

pub returns-clause-items : goal.returns-clause-items
returns-clause-items c = set_three c.args.at c.args.buf.now.items (c.args.count / 256 / 256 % 256) (c.args.count / 256 % 256) (c.args.count % 256) (omega (arith, c.args.buf.now.ok.0))
