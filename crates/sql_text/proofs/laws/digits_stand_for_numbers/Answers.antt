use Rattle.sql_text.proofs.Undone.{zero_before, written_back, negative_back, lies_in_bigint}
use Rattle.sql_text.proofs.laws.digits_stand_for_numbers.Goals as goal

pub returns-clause-zeros : goal.returns-clause-zeros
returns-clause-zeros c = λ z. zero_before z

pub returns-clause-written : goal.returns-clause-written
returns-clause-written c = λ z plain small. written_back z plain small

pub returns-clause-negative : goal.returns-clause-negative
returns-clause-negative c = λ z plain some small. negative_back z plain some small

pub returns-clause-fits : goal.returns-clause-fits
returns-clause-fits c = λ z is. lies_in_bigint z is
