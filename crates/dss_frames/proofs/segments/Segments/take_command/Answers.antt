use Rattle.std.proofs.Common.{refl}
use Rattle.dss_frames.proofs.Settled.{no_fault_unfinished}
use Rattle.dss_frames.proofs.segments.Segments.take_command.Goals as goal

pub returns-in-Ok-Nothing : goal.returns-in-Ok-Nothing
returns-in-Ok-Nothing c =
    let h = rw c.in-Ok-Nothing.field-0-is at c.in-Ok-Nothing.ensures in
    let un = rw (c.rest.ensures, ← c.self.view_is) at h.0 in
    rw (← c.self.view_is) (record {
      unfinished = un;
      rest = refl;
      last = refl;
      no_fault = no_fault_unfinished c.self.inside.at_fault _ c.self.invariant.known_fault un;
    })
