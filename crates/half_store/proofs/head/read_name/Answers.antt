use Rattle.std.proofs.Common.{sym, subst}
use Rattle.half_store.specs.Opened.{CountsOpen}
use Rattle.half_store.proofs.head.read_name.Goals as goal

pub returns-clause-cause : goal.returns-clause-cause
returns-clause-cause g c = subst (λ n. CountsOpen c.name_in.result (g.D.Disk.life c.args.disk.now).faults n) (sym c.in_ok-read_at.ensures.faults) (c.name_in.ensures.cause (g.D.Disk.life c.args.disk.now).faults)
