-- What is asked of a unit, as the core's step has it.
use Rattle.std.specs.Prelude.{List, map}
use Rattle.row_values.specs.Value.{Value, value_of}
use Rattle.sql_text.specs.declared.tree.Statement.{Statement}
use Rattle.core_model.specs.Asked.{Question, querying, running}
use Rattle.unit_statements.specs.declared.question.Question.{Question as CodeQuestion}
use Rattle.unit_statements.specs.declared.question.QuestionKind.{QuestionKind}
use Rattle.unit_statements.specs.declared.question.QuestionKind.TheVariants.{Query, Run}

abbrev pub asked_as : QuestionKind → Statement → List Value → Question
asked_as Run statement params = running statement params
asked_as Query statement params = querying statement params

abbrev pub question_of : CodeQuestion → Question
question_of q = asked_as q.kind q.statement.now (map value_of q.parameters.now)
