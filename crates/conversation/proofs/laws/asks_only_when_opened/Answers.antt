use Rattle.conversation.proofs.Asking.{asks_opened}
use Rattle.conversation.proofs.laws.asks_only_when_opened.Goals as goal

pub returns : goal.returns
returns g c = asks_opened g.A.Ask.asks
