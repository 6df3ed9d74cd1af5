-- The decision is the rest of the body.
use Rattle.unit_records.proofs.Bodies.{undecided}
use Rattle.unit_records.proofs.read.read_decide.Goals as goal

pub returns-in-None : goal.returns-in-None
returns-in-None c =
    undecided c.parts_stand_once.ensures c.args.body.now c.in-Ok.taken.0 c.in-Ok.taken.1.now c.in-Ok.ensures.0 c.in-Ok.ensures.1 c.in-None.ensures.none
