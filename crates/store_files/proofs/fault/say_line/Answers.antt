use Rattle.store_files.proofs.Fronts.{front_of}
use Rattle.store_files.proofs.fault.say_line.Goals as goal

pub returns : goal.returns
returns g c = front_of c.write_whole.result _ _ c.args.line.now c.write_whole.ensures.ok c.write_whole.ensures.err
