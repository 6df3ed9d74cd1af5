use Rattle.serializability.proofs.Belonging.{answers_belong, excuses_belong_to_none}
use Rattle.serializability.proofs.answers.answers_belong_to_calls.Goals as goal

pub returns-clause-belong : goal.returns-clause-belong
returns-clause-belong c = answers_belong

pub returns-clause-excuses : goal.returns-clause-excuses
returns-clause-excuses c = excuses_belong_to_none
