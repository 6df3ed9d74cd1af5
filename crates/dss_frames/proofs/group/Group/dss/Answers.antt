use Rattle.std.proofs.Common.{◌≡◌, ◌+◌, ◌∙◌, sym, ap, arith, length}
use Rattle.std.specs.Prelude.{slice_get}
use Rattle.dss_frames.specs.Group.{dss_of, joined_dsss}
use Rattle.dss_frames.proofs.Walks.{walk_on, walk_here, walk_past}
use Rattle.dss_frames.proofs.group.Group.dss.Goals as goal

pub returns-in_default : goal.returns-in_default
returns-in_default c = sym (walk_past c.args.self.now.text.now c.walking.at c.walking.counter c.args.i (sym c.in_default.ensures.value) (omega (arith, c.walking-test.true)) c.walking.invariant.walked)

pub walking-preserved : goal.walking-preserved
walking-preserved c = record {
  within = omega (arith, c.in-Some.ensures.within);
  walked = walk_on c.args.self.now.text.now c.walking.at (c.walking.at + (6 + length c.in-Some.dss.contents.now)) c.walking.counter (dss_of c.in-Some.dss) (sym c.in-Some.ensures.value) (omega arith) c.walking.invariant.walked;
}

pub returns : goal.returns
returns c =
    let done : c.walking.counter ≡ c.args.i = omega arith in
    c.dss_at-2.ensures.value ∙ sym (walk_here c.args.self.now.text.now c.walking.at c.walking.counter c.walking.invariant.walked) ∙ ap (slice_get (joined_dsss c.args.self.now.text.now)) done
