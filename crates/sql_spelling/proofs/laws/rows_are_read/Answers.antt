use Rattle.sql_spelling.proofs.Reading as reading
use Rattle.sql_spelling.proofs.laws.rows_are_read.Goals as goal

pub returns : goal.returns
returns c = reading.rows_are_read
