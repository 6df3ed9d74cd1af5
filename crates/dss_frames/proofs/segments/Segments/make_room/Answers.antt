use Rattle.std.proofs.Common.{arith, ◌∙◌, ap, ◌-◌}
use Rattle.dss_frames.proofs.Settled.{settled_elsewhere, moved}
use Rattle.dss_frames.proofs.segments.Segments.make_room.Goals.{then-kept-self, else-kept-self}
use Rattle.dss_frames.proofs.segments.Segments.make_room.Goals as goal

pub invariant_of-self : goal.invariant_of-self
invariant_of-self c = elim c.if-kept-self.branch [
  | then-kept-self w ↦ rw w.self-inside-is (settled_elsewhere c.self.inside.buf.items w.truncate.new.self.items c.self.inside.lent c.self.inside.lent_size c.self.inside.start 0 c.self.inside.place c.self.inside.at_fault c.self.invariant (w.truncate.ensures.items ∙ rw w.copy_within.ensures.items (moved c.self.inside.buf.items c.self.inside.start c.self.inside.buf.len (c.len.result - c.self.inside.start) c.self.inside.buf.ok.0 (ap (λ n. n - c.self.inside.start) c.len.ensures))) (omega arith))
  | else-kept-self w ↦ rw w.self-inside-is (record { lent_before = omega arith; start_within = c.self.invariant.start_within; stands = c.self.invariant.stands; known_fault = c.self.invariant.known_fault })
]
