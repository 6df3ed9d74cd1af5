use Rattle.conversation.proofs.Failing.{only_failure}
use Rattle.conversation.proofs.laws.only_failure_closes.Goals as goal

pub returns : goal.returns
returns g c = only_failure g.A.Ask.asks
