use Rattle.std.proofs.Common.{rules, sym, arith}
use Rattle.store_files.proofs.Unmarked.{goes_on, not_yet}
use Rattle.store_files.proofs.blocks.reserve_blocks.Goals as goal

pub loop-at-init : goal.loop-at-init
loop-at-init g c = (sym c.size-size.ensures, omega arith, search rules, not_yet (g.D.Disk.life c.args.disk.now))

pub returns-in_default-clause-moments : goal.returns-in_default-clause-moments
returns-in_default-clause-moments g c =
    let kept = c.loop-at.invariant in
    goes_on c.loop-at.at _ (g.D.Disk.life c.args.disk.now) (g.D.Disk.life c.loop-at.disk) (g.D.Disk.life c.write_at.new.self) (omega (arith, kept.1)) kept.3 c.in_default.ensures.tears

pub loop-at-preserved : goal.loop-at-preserved
loop-at-preserved g c =
    let kept = c.loop-at.invariant in (
      search rules,
      omega (arith, kept.1),
      kept.2,
      goes_on c.loop-at.at _ (g.D.Disk.life c.args.disk.now) (g.D.Disk.life c.loop-at.disk) (g.D.Disk.life c.write_at.new.self) (omega (arith, kept.1)) kept.3 c.in-Ok.ensures.tears,
    )
