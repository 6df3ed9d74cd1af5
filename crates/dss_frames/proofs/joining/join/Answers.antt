use Rattle.std.proofs.Common.{◌+◌, refl, ◌∙◌, arith}
use Rattle.dss_frames.proofs.Commands.{none_joined, one_joined, whole_joined}
use Rattle.dss_frames.proofs.joining.join.Goals as goal

pub joining-init : goal.joining-init
joining-init c = record {
  down = omega arith;
  before = omega arith;
  above = omega arith;
  len = refl;
  kept = refl;
  joined = λ dsss are. none_joined c.args.buf.now.items c.args.start c.args.size dsss (omega (arith, c.args.buf.now.ok.0)) are;
}

pub joining-smaller : goal.joining-smaller
joining-smaller c = omega (arith, c.join_dss.ensures.further c.joining-test.true)

pub joining-preserved : goal.joining-preserved
joining-preserved c = record {
  down = c.join_dss.ensures.down;
  before = c.join_dss.ensures.before;
  above = omega (arith, c.join_dss.ensures.above);
  len = c.join_dss.ensures.len ∙ c.joining.invariant.len;
  kept = c.join_dss.ensures.rest ∙ c.joining.invariant.kept;
  joined = λ dsss are. one_joined c.args.buf.now.items c.joining.buf.items c.join_dss.new.buf.items c.args.start c.joining.from c.joining.to (c.args.start + c.args.size) c.join_dss.result dsss c.joining-test.true (c.joining.invariant.joined dsss are) c.join_dss.ensures.joined;
}

pub returns-clause-dsss : goal.returns-clause-dsss
returns-clause-dsss c = λ dsss are.
    whole_joined c.args.buf.now.items c.joining.buf.items c.args.start c.joining.from c.joining.to (c.args.start + c.args.size) dsss c.joining-test.false c.joining.invariant.above
    (omega (arith, c.joining.buf.ok.0, c.joining.invariant.len)) (omega (arith, c.args.buf.now.ok.0)) (c.joining.invariant.joined dsss are)
