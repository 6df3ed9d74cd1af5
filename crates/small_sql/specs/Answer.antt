-- What a statement is answered, as its meaning says it.
use Rattle.std.specs.Prelude.{map}
use Rattle.tables.specs.ChangeView.{change_of}
use Rattle.sql_semantics.specs.Meaning.{Answer, Refused, Changes, Rows}
use Rattle.small_sql.specs.declared.answer.Answer.{Answer as CodeAnswer}
use Rattle.small_sql.specs.declared.answer.Answer.TheVariants as code

abbrev pub answer_of : CodeAnswer → Answer
answer_of (code.Refused fault) = Refused fault
answer_of (code.Changes changes count) = Changes (map change_of changes.items) count
answer_of (code.Rows list) = Rows list
