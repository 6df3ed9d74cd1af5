use Rattle.std.proofs.Common.{refl}
use Rattle.ddm_objects.specs.Writing.{spelled}
use Rattle.conversation.proofs.exchange.no_memory.Goals as goal

pub returns : goal.returns
unfolding spelled
returns c = rw c.to_be_bytes.ensures (rw c.resource_limit.ensures refl)
