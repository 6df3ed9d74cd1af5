-- What a statement is described by, or why it is refused.
use Rattle.std.specs.Prelude.{Result, Ok, Err}
use Rattle.core_calls.specs.Answer.{Answer}
use Rattle.core_calls.specs.declared.sql_fault.SqlFault.{SqlFault}
use Rattle.sql_semantics.specs.Checked.{Checked}
use Rattle.sql_descriptions.specs.Description.{answer_of}
use Rattle.sql_descriptions.specs.declared.description.Description.{Description}

abbrev pub described_as : Result Description SqlFault → Checked Answer
described_as (Ok description) = Ok (answer_of description)
described_as (Err fault) = Err fault
