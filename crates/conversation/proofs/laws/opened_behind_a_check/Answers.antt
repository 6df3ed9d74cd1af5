use Rattle.conversation.proofs.Checks.{opened_behind}
use Rattle.conversation.proofs.laws.opened_behind_a_check.Goals as goal

pub returns : goal.returns
returns g c = opened_behind g.A.Ask.asks
