use Rattle.std.proofs.Common.{arith, drop}
use Rattle.dss_frames.proofs.Settled.{no_fault_unfinished}
use Rattle.dss_frames.proofs.Wanting.{unfinished}
use Rattle.dss_frames.proofs.segments.Segments.waits.Goals as goal

pub returns-clause-unfinished : goal.returns-clause-unfinished
returns-clause-unfinished c = λ is.
    let waits = rw (c.rest.ensures, ← c.self.view_is, c.header_length.ensures.exact) at is in
    rw (← c.self.view_is) (unfinished (drop c.self.inside.start c.self.inside.buf.items) c.self.inside.place c.self.invariant.stands (grind (arith, waits)))

pub returns-clause-no_fault : goal.returns-clause-no_fault
returns-clause-no_fault c = λ is.
    let waits = rw (c.rest.ensures, ← c.self.view_is, c.header_length.ensures.exact) at is in
    let un = unfinished (drop c.self.inside.start c.self.inside.buf.items) c.self.inside.place c.self.invariant.stands (grind (arith, waits)) in
    rw (← c.self.view_is) (no_fault_unfinished c.self.inside.at_fault _ c.self.invariant.known_fault un)
