use Rattle.fdoca.proofs.Triplets.{answer_is}
use Rattle.fdoca.proofs.descriptor.Descriptor.parse.Goals as goal

pub returns : goal.returns
returns c = answer_is c.args.bytes.now c.read.result c.read.ensures
