use Rattle.std.proofs.Common.{arith, drop}
use Rattle.dss_frames.proofs.Steps.{place_first}
use Rattle.dss_frames.proofs.segments.Segments.new.Goals as goal

pub invariant_of-result : goal.invariant_of-result
invariant_of-result c = record {
  lent_before = omega arith;
  start_within = omega arith;
  stands = place_first (drop 0 c.new.result.items);
  known_fault = λ h. absurd cc;
}
