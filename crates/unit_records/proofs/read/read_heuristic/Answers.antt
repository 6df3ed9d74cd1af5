-- The decision is the rest of the body.
use Rattle.unit_records.proofs.Bodies.{no_outcome}
use Rattle.unit_records.proofs.read.read_heuristic.Goals as goal

pub returns-in-None : goal.returns-in-None
returns-in-None c =
    no_outcome c.parts_stand_once.ensures c.args.body.now c.in-Ok.taken.0 c.in-Ok.taken.1.now c.in-Ok.ensures.0 c.in-Ok.ensures.1 c.in-None.ensures.none
