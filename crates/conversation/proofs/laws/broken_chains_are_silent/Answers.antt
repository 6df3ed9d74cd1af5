use Rattle.conversation.proofs.Chains.{chains_are_silent}
use Rattle.conversation.proofs.laws.broken_chains_are_silent.Goals as goal

pub returns : goal.returns
returns g c = chains_are_silent g.A.Ask.asks
