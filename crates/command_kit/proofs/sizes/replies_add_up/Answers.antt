-- By induction on the first replies.
use Rattle.command_kit.proofs.Sums.{add_up}
use Rattle.command_kit.proofs.sizes.replies_add_up.Goals as goal

pub returns-clause-sum : goal.returns-clause-sum
returns-clause-sum c = add_up
