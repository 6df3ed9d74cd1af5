use Rattle.core_model.proofs.Asking.{answers_are_meanings}
use Rattle.core_model.proofs.laws.answers_are_meanings.Goals as goal

pub returns : goal.returns
returns c = answers_are_meanings c.adding.ensures c.statements_are_framed.ensures.enough
