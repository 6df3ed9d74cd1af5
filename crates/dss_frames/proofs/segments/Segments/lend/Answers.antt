use Rattle.std.proofs.Common.{◌+◌, arith, drop, length-drop, false, refl}
use Rattle.std.specs.Prelude.{IsTrue}
use Rattle.dss_frames.proofs.Steps.{place_first}
use Rattle.dss_frames.proofs.Settled.{no_fault_command, lent_command}
use Rattle.dss_frames.proofs.segments.Segments.lend.Goals as goal

pub invariant_of-self : goal.invariant_of-self
invariant_of-self c =
    let has = rw (← c.self.view_is) at c.requires in
    let none = no_fault_command c.self.inside.at_fault (drop c.self.inside.start c.self.inside.buf.items) c.args.size c.self.invariant.known_fault has in
    record {
      lent_before = omega (arith, c.join-joined.ensures.within);
      start_within = omega (arith, c.join-joined.ensures.len, c.self.invariant.start_within, has.0, length-drop c.self.inside.start c.self.inside.buf.items);
      stands = place_first (drop (c.self.inside.start + c.args.size) c.join-joined.new.buf.items);
      known_fault = λ is. absurd (let wrong : IsTrue false = rw none at is in cc);
    }

pub returns : goal.returns
returns c =
    let has = rw (← c.self.view_is) at c.requires in
    let none = no_fault_command c.self.inside.at_fault (drop c.self.inside.start c.self.inside.buf.items) c.args.size c.self.invariant.known_fault has in
    rw (← c.self.view_is) (record {
      taken = lent_command c.self.inside.buf.items c.join-joined.new.buf.items c.self.inside.start c.args.size c.join-joined.result has c.join-joined.ensures.rest c.join-joined.ensures.dsss;
      last = refl;
      no_fault = none;
    })
