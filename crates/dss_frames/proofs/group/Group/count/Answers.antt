use Rattle.std.proofs.Common.{◌+◌, sym, arith, length}
use Rattle.dss_frames.specs.Group.{dss_of}
use Rattle.dss_frames.proofs.Walks.{walk_count}
use Rattle.dss_frames.proofs.group.Group.count.Goals as goal

pub counting-preserved : goal.counting-preserved
counting-preserved c =
    let k = walk_count c.args.self.now.text.now c.counting.at (c.counting.at + (6 + length c.in-Some.dss.contents.now)) (dss_of c.in-Some.dss) (sym c.in-Some.ensures.value) (omega arith) in
    record {
      within = omega (arith, c.in-Some.ensures.within);
      counted = omega (arith, k);
      below = omega (arith, c.counting.invariant.below);
    }
