use Rattle.std.proofs.Common.{◌++◌}
use Rattle.std.proofs.KnownBytes.{Appends-trans}
use Rattle.drda_program.proofs.program.explain.Goals as goal

pub returns-in-Device : goal.returns-in-Device
returns-in-Device g c = (c.tell_people.ensures.0 ++ c.tell_people-in-Device.ensures.0, λ other. absurd (other c.in-Device.is), Appends-trans _ _ _ _ _ c.tell_people.ensures.1 c.tell_people-in-Device.ensures.1)
