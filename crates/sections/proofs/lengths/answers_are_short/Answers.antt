use Rattle.sections.proofs.Room.{blocks_short, descriptions_short}
use Rattle.sections.proofs.lengths.answers_are_short.Goals as goal

pub returns-clause-descriptions : goal.returns-clause-descriptions
returns-clause-descriptions c = descriptions_short

pub returns-clause-blocks : goal.returns-clause-blocks
returns-clause-blocks c = blocks_short
