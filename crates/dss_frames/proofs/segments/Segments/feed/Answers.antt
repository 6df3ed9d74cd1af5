use Rattle.dss_frames.proofs.Settled.{settled_more}
use Rattle.dss_frames.proofs.segments.Segments.feed.Goals.{in-Ok, in-Err}
use Rattle.dss_frames.proofs.segments.Segments.feed.Goals as goal

pub invariant_of-self : goal.invariant_of-self
invariant_of-self c = elim c.match-append.branch [
  | in-Ok w ↦ rw w.in-Ok.ensures.ok (settled_more c.self-2.inside.buf.items c.args.piece.now c.self-2.inside.lent c.self-2.inside.lent_size c.self-2.inside.start c.self-2.inside.place c.self-2.inside.at_fault c.self-2.invariant)
  | in-Err w ↦ rw w.in-Err.ensures.err c.self-2.invariant
]
