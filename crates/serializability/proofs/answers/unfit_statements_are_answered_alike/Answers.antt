use Rattle.serializability.proofs.Answering.{answers_tell, unfit_is_the_same}
use Rattle.serializability.proofs.answers.unfit_statements_are_answered_alike.Goals as goal

pub returns-clause-unfit : goal.returns-clause-unfit
returns-clause-unfit c = unfit_is_the_same

pub returns-clause-tell : goal.returns-clause-tell
returns-clause-tell c = answers_tell
