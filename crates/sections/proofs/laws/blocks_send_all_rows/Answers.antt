use Rattle.sections.proofs.Sending.{ends_soon, sends_all}
use Rattle.sections.proofs.laws.blocks_send_all_rows.Goals as goal

pub returns-clause-all : goal.returns-clause-all
returns-clause-all c = sends_all

pub returns-clause-soon : goal.returns-clause-soon
returns-clause-soon c = ends_soon
