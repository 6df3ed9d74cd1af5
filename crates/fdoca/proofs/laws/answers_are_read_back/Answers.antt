use Rattle.fdoca.proofs.Answers.{description_read, sent_read}
use Rattle.fdoca.proofs.laws.answers_are_read_back.Goals as goal

pub returns-clause-description : goal.returns-clause-description
returns-clause-description c = description_read

pub returns-clause-row : goal.returns-clause-row
returns-clause-row c = sent_read
