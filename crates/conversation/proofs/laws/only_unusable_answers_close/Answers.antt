use Rattle.conversation.proofs.Failing.{only_unusable_answers}
use Rattle.conversation.proofs.laws.only_unusable_answers_close.Goals as goal

pub returns : goal.returns
returns g c = only_unusable_answers g.A.Ask.asks
