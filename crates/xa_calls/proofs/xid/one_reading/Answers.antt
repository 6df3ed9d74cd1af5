use Rattle.xa_calls.proofs.Reading.{found_in, read_again, read_on}
use Rattle.xa_calls.proofs.xid.one_reading.Goals as goal

pub returns-clause-found : goal.returns-clause-found
returns-clause-found c = found_in

pub returns-clause-again : goal.returns-clause-again
returns-clause-again c = read_again

pub returns-clause-skipped : goal.returns-clause-skipped
returns-clause-skipped c = read_on
