use Rattle.store_dump.proofs.Going.{front_taken}
use Rattle.store_dump.proofs.lines.write.Goals as goal

pub returns-in-Err : goal.returns-in-Err
returns-in-Err g c = front_taken c.args.bytes.now _ _ c.in-Err.ensures.err
