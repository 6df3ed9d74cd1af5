-- What a statement is described by, as the core answers it.
use Rattle.core_calls.specs.Answer.{Answer, output, input}
use Rattle.core_calls.specs.Described.{columns_of}
use Rattle.sql_descriptions.specs.declared.description.Description.{Description}
use Rattle.sql_descriptions.specs.declared.description.Description.TheVariants as described

abbrev pub answer_of : Description → Answer
answer_of (described.Output columns) = output (columns_of columns)
answer_of (described.Input types) = input types
